use Rattle.std.proofs.Common.{◌≡◌, ◌<◌, ℕ, length, slice_index}
use Rattle.lms_ots.specs.Orders.{chain_in}
use Rattle.lms_ots.proofs.walk.first_chains.Given as goal

abbrev pub invariant-lanes : goal.invariant-lanes
invariant-lanes l = record {
  long : length l.chains ≡ 8;
  places : (j : ℕ) → j < l.k → slice_index l.chains j ≡ chain_in l.order j;
}
