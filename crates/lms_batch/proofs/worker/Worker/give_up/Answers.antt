use Rattle.std.proofs.Common.{arith}
use Rattle.lms_batch.proofs.Seen.{stop_sees}
use Rattle.lms_batch.proofs.worker.Worker.give_up.Goals as goal

pub invariant_of-self-clause-ahead : goal.invariant_of-self-clause-ahead
invariant_of-self-clause-ahead c = omega (arith, stop_sees _ _ _ _ c.stop.ensures.call c.stop.ensures.seat)

pub returns-clause-none : goal.returns-clause-none
returns-clause-none c = stop_sees _ _ _ _ c.stop.ensures.call c.stop.ensures.seat
