use Rattle.std.proofs.Common.{◌≡◌}
use Rattle.lms_pool_tests.proofs.tests.claim_up_to.Given as goal

abbrev pub invariant-loop : goal.invariant-loop
invariant-loop g l = g.P.Pool.pool_of l.seat ≡ g.P.Pool.state l.pool
