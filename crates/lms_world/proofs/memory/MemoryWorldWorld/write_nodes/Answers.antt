use Rattle.lms_world.proofs.Answering.{keeps_as}
use Rattle.lms_world.proofs.memory.MemoryWorldWorld.write_nodes.Goals as goal

pub returns-clause-acts : goal.returns-clause-acts
returns-clause-acts c = keeps_as c.args.self.now c.keep-answer.new.self c.args.text.now c.keep-answer.result
    c.keep-answer.ensures.held c.keep-answer.ensures.refused
