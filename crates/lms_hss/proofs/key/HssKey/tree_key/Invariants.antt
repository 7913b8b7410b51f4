use Rattle.std.proofs.Common.{◌≡◌}
use Rattle.lms_spec.specs.Profile.{tree_at}
use Rattle.lms_tree.specs.TreeKey.{tree_of}
use Rattle.lms_hss.specs.Keys.{hss_key_of}
use Rattle.lms_hss.proofs.key.HssKey.tree_key.Given as goal

abbrev pub invariant-loop-j : goal.invariant-loop-j
invariant-loop-j l = tree_of l.tree ≡ tree_at (hss_key_of l.self) l.g l.j
