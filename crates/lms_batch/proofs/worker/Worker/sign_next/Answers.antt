use Rattle.std.proofs.Common.{arith}
use Rattle.lms_batch.proofs.Seen.{sees_more}
use Rattle.lms_batch.proofs.worker.Worker.sign_next.Goals as goal

pub invariant_of-self-clause-ahead : goal.invariant_of-self-clause-ahead
invariant_of-self-clause-ahead g c = omega (arith, c.args.self.now.ahead, sees_more _ _ _ _ c.claim.ensures.call)
