use Rattle.std.proofs.Common.{ℕ, ◌<◌, ◌≤◌, slice_index}
use Rattle.lms_lanes.proofs.chains.most.Given as goal

abbrev pub invariant-lanes : goal.invariant-lanes
invariant-lanes l = record {
  bound : (j : ℕ) → j < l.k → slice_index l.numbers j ≤ l.most;
  least : (n : ℕ) → ((j : ℕ) → j < 8 → slice_index l.numbers j ≤ n) → l.most ≤ n;
}
