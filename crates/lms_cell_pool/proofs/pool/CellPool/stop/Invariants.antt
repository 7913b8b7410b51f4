use Rattle.std.proofs.Common.{◌≡◌}
use Rattle.lms_cell_pool.proofs.pool.CellPool.stop.Given as goal

abbrev pub invariant-loop : goal.invariant-loop
invariant-loop g l = l.me ≡ l.fn.me
