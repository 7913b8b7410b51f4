use Rattle.lms_world.proofs.Answering.{witness_as}
use Rattle.lms_world.proofs.memory.MemoryWorldWorld.look_at_witness.Goals as goal

pub returns-clause-acts : goal.returns-clause-acts
returns-clause-acts c =
    witness_as c.args.self.now c.copy_of_witness-seen.result c.copy_of_witness-seen.ensures.given
    c.copy_of_witness-seen.ensures.refused
