use Rattle.lms_world.proofs.Answering.{nodes_as}
use Rattle.lms_world.proofs.memory.MemoryWorldWorld.read_nodes.Goals as goal

pub returns-clause-acts : goal.returns-clause-acts
returns-clause-acts c = nodes_as c.args.self.now c.copy_of_nodes-found.result c.copy_of_nodes-found.ensures.given
