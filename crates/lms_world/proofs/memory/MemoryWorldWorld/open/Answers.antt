use Rattle.std.proofs.Common.{Ok, Err}
use Rattle.lms_world.proofs.Answering.{reads_as}
use Rattle.lms_world.proofs.memory.MemoryWorldWorld.open.Goals as goal

pub returns-in-Ok-clause-acts : goal.returns-in-Ok-clause-acts
returns-in-Ok-clause-acts c = reads_as c.args.self.now c.args.name.now (Ok c.in-Ok.bytes) c.in-Ok.ensures.given tt

pub returns-in-Err-clause-acts : goal.returns-in-Err-clause-acts
returns-in-Err-clause-acts c = reads_as c.args.self.now c.args.name.now (Err c.in-Err.fault) tt c.in-Err.ensures.refused
