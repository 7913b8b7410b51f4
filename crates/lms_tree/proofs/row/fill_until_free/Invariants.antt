use Rattle.std.proofs.Common.{◌≡◌, ◌+◌, ◌-◌, ◌<◌, ◌≤◌, ℕ, [], length, get_or}
use Rattle.lms_spec.specs.Tree.{node}
use Rattle.lms_tree.specs.TreeKey.{tree_of}
use Rattle.lms_tree.proofs.row.fill_until_free.Given as goal

abbrev pub invariant-loop-done : goal.invariant-loop-done
invariant-loop-done g l = record {
  count : length l.part ≡ length l.fn.part;
  bound : l.done ≤ length l.part;
  nodes : (k : ℕ) → k < l.done → get_or l.part k [] ≡ node (tree_of l.work.key) (l.first + k);
}

abbrev pub decreases-loop-done : goal.decreases-loop-done
decreases-loop-done g l = length l.part - l.done
