use Rattle.std.proofs.Common.{◌≡◌, ◌-◌, ◌<◌, ℕ, [], length, min, get_or}
use Rattle.lms_ots.proofs.walk.put_starts.Given as goal

abbrev pub invariant-starts : goal.invariant-starts
invariant-starts l = record {
  long : length l.ends ≡ 265;
  begun : (j : ℕ) → j < l.i → get_or l.ends j [] ≡ get_or l.starts (min j (length l.starts - 1)) [];
}
