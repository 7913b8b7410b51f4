use Rattle.std.proofs.Common.{◌<◌, ◌^◌, ◌∙◌, sym, ap₂, arith}
use Rattle.lms_spec.specs.Tree.{inner_hash}
use Rattle.lms_spec.proofs.Nodes.{node-inner}
use Rattle.lms_tree.specs.TreeKey.{tree_of}
use Rattle.lms_tree.proofs.tree_key.TreeKey.+subtree_root.Goals as goal

pub returns : goal.returns
returns _ c =
    let key = c.args.self.now in
    let tree = tree_of key in
    let above : c.args.r < 2 ^ tree.lms.h = omega arith in
    c.inner_hash.ensures
    ∙ (ap₂ (inner_hash key.i c.args.r) c.subtree_root-left.ensures c.subtree_root-right.ensures
    ∙ sym (node-inner tree c.args.r c.requires.some above))
