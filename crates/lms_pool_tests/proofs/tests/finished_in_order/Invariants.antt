use Rattle.std.proofs.Common.{◌≡◌, All}
use Rattle.std.specs.Prelude.{vec_len}
use Rattle.lms_pool_tests.proofs.tests.finished_in_order.Given as goal

abbrev pub invariant-loop-claimed : goal.invariant-loop-claimed
invariant-loop-claimed g l = record {
  all : All (λ claimed. g.P.Pool.pool_of claimed.0 ≡ g.P.Pool.state l.pool) l.all.items;
  seats : All (λ seat. g.P.Pool.pool_of seat ≡ g.P.Pool.state l.pool) l.seats.items;
}

abbrev pub decreases-loop-claimed : goal.decreases-loop-claimed
decreases-loop-claimed g l = vec_len l.all
