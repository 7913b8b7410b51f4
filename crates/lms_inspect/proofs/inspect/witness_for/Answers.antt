use Rattle.lms_world.proofs.Following.{one_call}
use Rattle.lms_inspect.proofs.inspect.witness_for.Goals as goal

pub returns-in-Ok-clause-follows : goal.returns-in-Ok-clause-follows
returns-in-Ok-clause-follows g c = one_call c.look_at_witness.ensures.logged c.look_at_witness.ensures.acts

pub returns-in-Err-Device-clause-follows : goal.returns-in-Err-Device-clause-follows
returns-in-Err-Device-clause-follows g c = one_call c.look_at_witness.ensures.logged c.look_at_witness.ensures.acts

pub returns-in-Err-OutOfMemory-clause-follows : goal.returns-in-Err-OutOfMemory-clause-follows
returns-in-Err-OutOfMemory-clause-follows g c = one_call c.look_at_witness.ensures.logged c.look_at_witness.ensures.acts
