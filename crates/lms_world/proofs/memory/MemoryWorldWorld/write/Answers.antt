use Rattle.lms_world.specs.Events.{output_name}
use Rattle.lms_world.proofs.Answering.{writes_as}
use Rattle.lms_world.proofs.memory.MemoryWorldWorld.write.Goals as goal

pub returns-clause-acts : goal.returns-clause-acts
returns-clause-acts c = writes_as c.args.self.now c.set-answer.new.self (output_name c.args.output) c.args.bytes.now
    c.set-answer.result (rw c.as_str-name.ensures.value at c.set-answer.ensures.held)
    (rw c.as_str-name.ensures.value at c.set-answer.ensures.refused)
