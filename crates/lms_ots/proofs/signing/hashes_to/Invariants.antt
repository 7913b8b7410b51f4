use Rattle.std.proofs.Common.{◌≡◌, ◌+◌, ◌<◌, ℕ, length, slice_index}
use Rattle.lms_ots.proofs.signing.hashes_to.Given as goal

abbrev pub invariant-chains : goal.invariant-chains
invariant-chains l = record {
  long : length l.hashes ≡ 265;
  made : (j : ℕ) → j < l.i → slice_index l.hashes j ≡ slice_index l.digits j + 1;
}
