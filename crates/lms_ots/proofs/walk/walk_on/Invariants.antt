use Rattle.std.proofs.Common.{◌≡◌, ◌+◌, ◌-◌, ◌%◌, ◌<◌, ℕ, [], length, get_or, min, slice_index}
use Rattle.lms_ots.proofs.walk.walk_on.Given as goal

abbrev pub invariant-lanes : goal.invariant-lanes
invariant-lanes l = record {
  firsts_long : length l.lane_firsts ≡ 8;
  steps_long : length l.lane_steps ≡ 8;
  left_long : length l.lane_left ≡ 8;
  values_long : length l.lane_values ≡ 8;
  firsts : (j : ℕ) → j < l.k → slice_index l.lane_firsts j
      ≡ (slice_index l.firsts (slice_index l.chains j)
      + (slice_index l.steps (slice_index l.chains j) - slice_index l.left (slice_index l.chains j))) % 65536;
  steps : (j : ℕ) → j < l.k
      → slice_index l.lane_steps j ≡ min (slice_index l.left (slice_index l.chains j)) l.most;
  left : (j : ℕ) → j < l.k → slice_index l.lane_left j
      ≡ slice_index l.left (slice_index l.chains j) - min (slice_index l.left (slice_index l.chains j)) l.most;
  values : (j : ℕ) → j < l.k → get_or l.lane_values j [] ≡ get_or l.ends (slice_index l.chains j) [];
}
