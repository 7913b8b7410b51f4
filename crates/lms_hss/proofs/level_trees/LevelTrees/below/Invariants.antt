use Rattle.std.proofs.Common.{◌≡◌, ◌+◌, ◌≤◌, length, vec_capacity}
use Rattle.std.specs.Option.{IfSome}
use Rattle.lms_hss.specs.Keys.{hss_key_of}
use Rattle.lms_hss.specs.Forests.{HoldsTrees, IsTreeNumbered}
use Rattle.lms_hss.proofs.level_trees.LevelTrees.below.Given as goal

abbrev pub invariant-loop-number : goal.invariant-loop-number
invariant-loop-number g l = record {
  count : l.first + length l.trees.items ≡ l.number;
  capacity : l.end ≤ l.first + vec_capacity l.trees;
  held : HoldsTrees (hss_key_of l.key) (l.k + 1) l.start l.last l.first l.trees.items;
  kept : IfSome l.kept (IsTreeNumbered (hss_key_of l.key) (l.k + 1) l.number);
}
