use Rattle.std.proofs.Common.{◌≡◌, ◌+◌, ◌≤◌, length, vec_capacity}
use Rattle.lms_hss.specs.Keys.{hss_key_of}
use Rattle.lms_hss.specs.Forests.{AreLevelsFrom, HoldsLevel}
use Rattle.lms_hss.proofs.forest.Forest.by_kept.Given as goal

abbrev pub invariant-loop-k : goal.invariant-loop-k
invariant-loop-k g l = record {
  level : HoldsLevel (hss_key_of l.key) l.k l.start l.last l.trees;
  kept : AreLevelsFrom (hss_key_of l.key) (l.k + 1) l.kept.items;
  upper : AreLevelsFrom (hss_key_of l.key) 0 l.upper.items;
  count : length l.upper.items ≡ l.k;
  room : l.below_top + 1 ≤ vec_capacity l.upper;
}
