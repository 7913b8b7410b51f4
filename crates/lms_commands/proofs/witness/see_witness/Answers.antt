use Rattle.lms_world.proofs.Following.{one_call}
use Rattle.lms_commands.proofs.witness.see_witness.Goals as goal

pub returns-in-Ok-Some-clause-follows : goal.returns-in-Ok-Some-clause-follows
returns-in-Ok-Some-clause-follows g c = one_call c.read_witness.ensures.logged c.read_witness.ensures.acts

pub returns-in-Ok-None-clause-follows : goal.returns-in-Ok-None-clause-follows
returns-in-Ok-None-clause-follows g c = one_call c.read_witness.ensures.logged c.read_witness.ensures.acts

pub returns-in-Err-Device-clause-follows : goal.returns-in-Err-Device-clause-follows
returns-in-Err-Device-clause-follows g c = one_call c.read_witness.ensures.logged c.read_witness.ensures.acts

pub returns-in-Err-OutOfMemory-clause-follows : goal.returns-in-Err-OutOfMemory-clause-follows
returns-in-Err-OutOfMemory-clause-follows g c = one_call c.read_witness.ensures.logged c.read_witness.ensures.acts
