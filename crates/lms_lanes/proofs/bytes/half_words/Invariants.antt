use Rattle.std.proofs.Common.{◌≡◌, ℕ, ◌<◌, [], length, get_or, slice_index}
use Rattle.lms_lanes.specs.Chains.{half_word}
use Rattle.lms_lanes.proofs.bytes.half_words.Given as goal

abbrev pub invariant-lanes : goal.invariant-lanes
invariant-lanes l = record {
  wide : length l.words ≡ 8;
  words : (j : ℕ) → j < l.k → slice_index l.words j ≡ half_word (get_or l.heads j []);
}
