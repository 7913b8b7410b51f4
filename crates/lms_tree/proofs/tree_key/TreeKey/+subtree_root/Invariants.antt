use Rattle.std.proofs.Common.{◌-◌, ◌^◌}
use Rattle.lms_tree.proofs.tree_key.TreeKey.+subtree_root.Given as goal

abbrev pub decreases-subtree_root : goal.decreases-subtree_root
decreases-subtree_root l = 2 ^ 26 - l.r
