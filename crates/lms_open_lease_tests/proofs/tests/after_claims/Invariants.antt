use Rattle.std.proofs.Common.{◌≡◌}
use Rattle.lms_open_lease_tests.proofs.tests.after_claims.Given as goal

abbrev pub invariant-loop : goal.invariant-loop
invariant-loop l = l.seat.pool ≡ l.lease
