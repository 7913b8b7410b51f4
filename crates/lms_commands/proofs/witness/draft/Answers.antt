use Rattle.lms_world.proofs.Following.{one_call}
use Rattle.lms_commands.proofs.witness.draft.Goals as goal

pub returns-in-Ok-draft_witness-clause-follows : goal.returns-in-Ok-draft_witness-clause-follows
returns-in-Ok-draft_witness-clause-follows g c = one_call c.draft_witness.ensures.logged c.draft_witness.ensures.acts

pub returns-in-Err-Device-clause-follows : goal.returns-in-Err-Device-clause-follows
returns-in-Err-Device-clause-follows g c = one_call c.draft_witness.ensures.logged c.draft_witness.ensures.acts

pub returns-clause-follows : goal.returns-clause-follows
returns-clause-follows g c = one_call c.draft_witness.ensures.logged c.draft_witness.ensures.acts
