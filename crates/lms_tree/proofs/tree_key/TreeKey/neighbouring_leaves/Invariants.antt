use Rattle.std.proofs.Common.{◌≡◌, ◌+◌, ◌^◌, ◌<◌, ℕ, [], length, get_or}
use Rattle.lms_spec.specs.Tree.{leaf_hash}
use Rattle.lms_tree.specs.TreeKey.{tree_of}
use Rattle.lms_tree.proofs.tree_key.TreeKey.neighbouring_leaves.Given as goal

abbrev pub invariant-lanes : goal.invariant-lanes
invariant-lanes l = record {
  long : length l.values ≡ 8;
  done : (j : ℕ) → j < l.k
      → get_or l.values j [] ≡ leaf_hash l.self.i (2 ^ (tree_of l.self).lms.h + l.q + j) (get_or l.ots_publics j []);
}
