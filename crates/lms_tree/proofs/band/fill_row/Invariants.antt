use Rattle.std.proofs.Common.{ℕ, ◌≡◌, ◌+◌, ◌<◌, ◌≤◌, [], length, get_or}
use Rattle.lms_spec.specs.Tree.{node}
use Rattle.lms_tree.specs.TreeKey.{tree_of}
use Rattle.lms_tree.proofs.band.fill_row.Given as goal

abbrev pub invariant-loop-i : goal.invariant-loop-i
invariant-loop-i l = record {
  count : length l.nodes ≡ length l.fn.nodes;
  so_far : (k : ℕ) → k < l.i → get_or l.nodes (l.row.place + k) [] ≡ node (tree_of l.key) (l.row.first + k);
  others : (k : ℕ) → l.row.place + l.row.count ≤ k → get_or l.nodes k [] ≡ get_or l.fn.nodes k [];
}
