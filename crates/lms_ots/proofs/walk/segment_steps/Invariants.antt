use Rattle.std.proofs.Common.{ℕ, ◌<◌, ◌≤◌, slice_index}
use Rattle.lms_ots.proofs.walk.segment_steps.Given as goal

abbrev pub invariant-lanes : goal.invariant-lanes
invariant-lanes l = record {
  busy : (j : ℕ) → j < l.k → l.steps ≤ slice_index l.left (slice_index l.chains j);
  ends : (j : ℕ) × (j < 8) × (slice_index l.left (slice_index l.chains j) ≤ l.steps);
}
