use Rattle.std.proofs.Common.{ℕ, ◌≡◌, ◌≤◌, ◌<◌, length, get_or, vec_len, vec_capacity}
use Rattle.lms_kept.specs.declared.kept_level.KeptLevel.{KeptLevel}
use Rattle.lms_hss.specs.Keys.{hss_key_of}
use Rattle.lms_kept.specs.Ways.{ArePlanned, IsGenuine, IsOnWay, SignOwnKeys}
use Rattle.lms_kept.proofs.kept_trees.KeptTrees.completed.Given as goal

abbrev pub invariant-loop-planned : goal.invariant-loop-planned
invariant-loop-planned g l = record {
  planned : ArePlanned (hss_key_of l.fn.key) l.fn.at (length l.levels.items) l.plans.items;
  room : length l.fn.key.levels ≤ vec_capacity l.levels;
  at_least : length l.fn.levels.items ≤ length l.levels.items;
  on : (j : ℕ) (other : KeptLevel) → j < length l.levels.items
      → IsOnWay (hss_key_of l.fn.key) l.fn.at j (get_or l.levels.items j other);
  same : (j : ℕ) (other : KeptLevel) → j < length l.fn.levels.items
      → get_or l.levels.items j other ≡ get_or l.fn.levels.items j other;
  signs : SignOwnKeys (hss_key_of l.fn.key) l.fn.at (length l.fn.levels.items) l.levels.items;
  genuine : ((j : ℕ) (other : KeptLevel) → j < length l.fn.levels.items
      → IsGenuine (hss_key_of l.fn.key) l.fn.at j (get_or l.fn.levels.items j other))
      → (j : ℕ) (other : KeptLevel) → j < length l.levels.items
      → IsGenuine (hss_key_of l.fn.key) l.fn.at j (get_or l.levels.items j other);
}

abbrev pub decreases-loop-planned : goal.decreases-loop-planned
decreases-loop-planned g l = vec_len l.plans
