use Rattle.std.proofs.Common.{◌≡◌, ℕ, ◌<◌, [], length, get_or, slice_index}
use Rattle.sha2.specs.Sha256.{word_at}
use Rattle.std.specs.Int.{to_be_bytes, w32}
use Rattle.lms_lanes.specs.Lanes.{four_at}
use Rattle.lms_lanes.proofs.bytes.words_at.Given as goal

abbrev pub invariant-lanes : goal.invariant-lanes
invariant-lanes g l = record {
  wide : length l.words ≡ 8;
  long : (j : ℕ) → j < l.k → length (get_or l.texts j []) ≡ g.row.M;
  words : (j : ℕ) → j < l.k → slice_index l.words j ≡ word_at (get_or l.texts j []) l.at;
  bytes : (j : ℕ) → j < l.k → to_be_bytes w32 (word_at (get_or l.texts j []) l.at) ≡ four_at (get_or l.texts j []) l.at;
}
