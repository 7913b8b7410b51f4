use Rattle.std.proofs.Common.{◌+◌, ◌-◌, ◌*◌, ◌^◌, ◌<◌, ◌≤◌, sym, ◌∙◌, ap, arith, subst}
use Rattle.lms_tree.specs.declared.band.Rows.{Rows}
use Rattle.lms_tree.specs.TreeKey.{tree_of}
use Rattle.lms_tree.specs.Served.{IsNeeded}
use Rattle.lms_tree.specs.Bands.{ServedLeaves}
use Rattle.lms_tree.proofs.Served.{needed-in-tree}
use Rattle.lms_tree.proofs.Subtrees.{needed-in-lower}
use Rattle.lms_tree.proofs.band_tree.BandTreeNodeSource.node.Goals as goal

pub ilog2-level-requires : goal.ilog2-level-requires
ilog2-level-requires c =
    let self = c.self.inside in
    let h = (tree_of self.upper.key).lms.h in
    let needed = subst (λ (v : ServedLeaves). IsNeeded (tree_of v.key).lms.h v.first v.last c.args.r)
    (sym c.self.view_is) c.requires in
    omega (arith, needed-in-tree h self.first self.last c.args.r c.self.invariant.in_tree needed)

-- where a needed node is in the lower rows
place-of-needed : (c : goal.Else-level-top)
    → (c.ilog2-level.result - c.depth-top.result ≤ c.self.inside.lower.rows.depth)
    × (c.self.inside.lower.rows.first * 2 ^ (c.ilog2-level.result - c.depth-top.result) ≤ c.args.r)
    × (c.args.r < (c.self.inside.lower.rows.first + c.self.inside.lower.rows.width)
    * 2 ^ (c.ilog2-level.result - c.depth-top.result))
place-of-needed c =
    let self = c.self.inside in
    let h = (tree_of self.upper.key).lms.h in
    let level = c.ilog2-level.result in
    let needed = subst (λ (v : ServedLeaves). IsNeeded (tree_of v.key).lms.h v.first v.last c.args.r)
    (sym c.self.view_is) c.requires in
    let top = c.depth-top.ensures ∙ ap (λ (rows : Rows). rows.depth) c.self.invariant.upper_rows in
    let is = needed-in-lower h self.first self.last c.args.r level c.self.invariant.in_tree needed
    c.ilog2-level.ensures.power_le c.ilog2-level.ensures.next_power_gt
    (omega (arith, top, c.if-level-top.false)) in
    rw (top, c.self.invariant.lower_rows_are) is

pub node-requires-else-level-top-clause-level : goal.node-requires-else-level-top-clause-level
node-requires-else-level-top-clause-level c = (place-of-needed c).0

pub node-requires-else-level-top-clause-from : goal.node-requires-else-level-top-clause-from
node-requires-else-level-top-clause-from c = (place-of-needed c).1

pub node-requires-else-level-top-clause-to : goal.node-requires-else-level-top-clause-to
node-requires-else-level-top-clause-to c = (place-of-needed c).2
