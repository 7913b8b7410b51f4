use Rattle.lms_world.proofs.Following.{one_call}
use Rattle.lms_key_commands.proofs.watch.make.Goals as goal

pub returns-in-Ok-clause-follows : goal.returns-in-Ok-clause-follows
returns-in-Ok-clause-follows g c = one_call c.make_witness.ensures.logged c.make_witness.ensures.acts

pub returns-in-Err-Device-clause-follows : goal.returns-in-Err-Device-clause-follows
returns-in-Err-Device-clause-follows g c = one_call c.make_witness.ensures.logged c.make_witness.ensures.acts

pub returns-clause-follows : goal.returns-clause-follows
returns-clause-follows g c = one_call c.make_witness.ensures.logged c.make_witness.ensures.acts
