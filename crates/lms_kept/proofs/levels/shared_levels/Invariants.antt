use Rattle.std.proofs.Common.{ℕ, ◌≡◌, ◌<◌}
use Rattle.lms_hss.specs.Keys.{hss_key_of, tree_number}
use Rattle.lms_kept.proofs.levels.shared_levels.Given as goal

abbrev pub invariant-loop-k : goal.invariant-loop-k
invariant-loop-k l = (j : ℕ) → j < l.k → tree_number (hss_key_of l.key) l.g j ≡ tree_number (hss_key_of l.key) l.h j
