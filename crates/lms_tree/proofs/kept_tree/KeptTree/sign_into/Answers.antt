use Rattle.lms_tree.specs.Bands.{bottom_height}
use Rattle.lms_tree.specs.TreeKey.{tree_of}
use Rattle.lms_tree.proofs.KeptLeaves.{leaf-between}
use Rattle.lms_tree.proofs.kept_tree.KeptTree.sign_into.Goals as goal

pub sign_into-requires-clause-first : goal.sign_into-requires-clause-first
sign_into-requires-clause-first c =
    let kept = c.args.self.now in
    (leaf-between (bottom_height (tree_of kept.key).lms.h) kept.subtree c.args.q c.requires.served).0

pub sign_into-requires-clause-last : goal.sign_into-requires-clause-last
sign_into-requires-clause-last c =
    let kept = c.args.self.now in
    (leaf-between (bottom_height (tree_of kept.key).lms.h) kept.subtree c.args.q c.requires.served).1
