use Rattle.lms_world.proofs.Answering.{reads_as}
use Rattle.lms_world.proofs.memory.MemoryWorldWorld.read.Goals as goal

pub returns-clause-acts : goal.returns-clause-acts
returns-clause-acts c = reads_as c.args.self.now c.args.name.now c.copy_of-answer.result
    c.copy_of-answer.ensures.given c.copy_of-answer.ensures.refused
