use Rattle.std.proofs.Common.{ℕ, ◌≡◌, ◌<◌, ◌++◌, length, get_or}
use Rattle.std.specs.List.{flat_map}
use Rattle.lms_kept.specs.declared.kept_level.KeptLevel.{KeptLevel}
use Rattle.lms_hss.specs.Keys.{hss_key_of}
use Rattle.lms_kept.specs.Ways.{IsOnWay, level_text}
use Rattle.lms_kept.proofs.kept_trees.split_levels.Given as goal

abbrev pub invariant-loop-k : goal.invariant-loop-k
invariant-loop-k l = record {
  count : length l.levels.items ≡ l.k;
  each : (j : ℕ) (other : KeptLevel) → j < l.k → IsOnWay (hss_key_of l.key) l.at j (get_or l.levels.items j other);
  text : l.text ≡ flat_map level_text l.levels.items ++ l.rest;
}
