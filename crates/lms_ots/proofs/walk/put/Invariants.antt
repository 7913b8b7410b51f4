use Rattle.std.proofs.Common.{◌≡◌, ◌<◌, ◌≤◌, ℕ, List, [], length, get_or, slice_index}
use Rattle.lms_ots.proofs.walk.put.Given as goal

abbrev pub invariant-lanes : goal.invariant-lanes
invariant-lanes l = record {
  left_long : length l.left ≡ 265;
  ends_long : length l.ends ≡ 265;
  less : ((j : ℕ) → j < 8 → slice_index l.lane_left j ≤ slice_index l.fn.left (slice_index l.chains j))
      → (i : ℕ) → slice_index l.left i ≤ slice_index l.fn.left i;
  come : (f : ℕ → ℕ) → ((j : ℕ) → j < 8 → slice_index l.lane_left j ≡ f (slice_index l.chains j))
      → (j : ℕ) → j < l.k → slice_index l.left (slice_index l.chains j) ≡ f (slice_index l.chains j);
  values : (f : ℕ → ℕ → List ℕ)
      → ((j : ℕ) → j < 8 → get_or l.values j [] ≡ f (slice_index l.chains j) (slice_index l.lane_left j))
      → (i : ℕ) → get_or l.fn.ends i [] ≡ f i (slice_index l.fn.left i)
      → get_or l.ends i [] ≡ f i (slice_index l.left i);
}
