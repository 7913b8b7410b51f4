use Rattle.std.proofs.Common.{ap, arith}
use Rattle.lms_pool.specs.States.{PoolState}
use Rattle.lms_batch.proofs.Seen.{claim_sees, sees_within}
use Rattle.lms_batch.proofs.worker.Worker.work.Goals as goal

pub invariant_of-self-clause-ahead : goal.invariant_of-self-clause-ahead
invariant_of-self-clause-ahead g c =
    let old = c.loop-self.self in
    let new = c.sign_next.new.self in
    let call = c.in-Some.ensures.one_claim in
    let len = λ (p : PoolState). p.len in
    omega (
      arith,
      old.ahead,
      claim_sees _ _ _ call,
      c.sign_next.ensures.to_sign,
      ap len old.own,
      ap len new.own,
      ap len call.0,
    )

pub returns-after-loop-self : goal.returns-after-loop-self
returns-after-loop-self g c =
    let worker = c.loop-self.self in
    omega (
      arith,
      worker.ahead,
      c.loop-self-test.false,
      sees_within worker.seat,
      ap (λ (p : PoolState). p.len) worker.own,
    )
