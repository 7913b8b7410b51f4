use Rattle.std.proofs.Common.{◌≡◌, ◌<◌, ◌%◌, ℕ, length, slice_index}
use Rattle.lms_ots.proofs.walk.longest_first.Given as goal

abbrev pub invariant-chains : goal.invariant-chains
invariant-chains l = record {
  long : length l.order ≡ 265;
  ends : (j : ℕ) → j < l.i → slice_index l.order j % 65536 ≡ j;
}
