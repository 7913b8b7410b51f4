use Rattle.std.proofs.Common.{◌≡◌, ℕ, ◌<◌, ◌^◌, length, slice_index}
use Rattle.lms_lanes.proofs.bytes.widened.Given as goal

abbrev pub invariant-lanes : goal.invariant-lanes
invariant-lanes l = record {
  wide : length l.words ≡ 8;
  words : (j : ℕ) → j < l.k → slice_index l.words j ≡ slice_index l.numbers j;
  small : (j : ℕ) → j < l.k → slice_index l.numbers j < 2 ^ 16;
}
