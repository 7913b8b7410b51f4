use Rattle.std.proofs.Common.{◌-◌, ◌^◌, ◌∙◌, ap, arith, pow_pos}
use Rattle.lms_params.specs.LmsType.{lms_set_of}
use Rattle.lms_tree.specs.declared.band.Rows.{Rows}
use Rattle.lms_tree.specs.declared.tree_key.TreeKey.{TreeKey}
use Rattle.lms_tree.proofs.Served.{needed-in-tree}
use Rattle.lms_tree.proofs.Subtrees.{row-at-most}
use Rattle.lms_tree.proofs.whole_tree.WholeTreeNodeSource.node.Goals as goal

pub ilog2-requires : goal.ilog2-requires
ilog2-requires c =
    let h = (lms_set_of c.args.self.now.lms).h in
    omega (arith, needed-in-tree h 0 (2 ^ h - 1) c.args.r (omega (arith, pow_pos h)) c.requires)

pub node-requires-clause-level : goal.node-requires-clause-level
node-requires-clause-level c =
    let h = (lms_set_of c.args.self.now.lms).h in
    let depth = ap (λ (rows : Rows). rows.depth) c.self.invariant
    ∙ ap (λ (key : TreeKey). (lms_set_of key.lms).h) c.self.view_is in
    let in_tree = needed-in-tree h 0 (2 ^ h - 1) c.args.r (omega (arith, pow_pos h)) c.requires in
    omega (arith, depth, row-at-most c.ilog2.result h c.args.r c.ilog2.ensures.power_le in_tree.1)
