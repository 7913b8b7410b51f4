use Rattle.lms_world.proofs.Answering.{witness_as}
use Rattle.lms_world.proofs.memory.MemoryWorldWorld.read_witness.Goals as goal

pub returns-clause-acts : goal.returns-clause-acts
returns-clause-acts c = witness_as c.args.self.now c.copy_of_witness-answer.result
    c.copy_of_witness-answer.ensures.given c.copy_of_witness-answer.ensures.refused
