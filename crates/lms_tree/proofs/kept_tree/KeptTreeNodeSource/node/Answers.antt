use Rattle.std.proofs.Common.{ℕ, ◌+◌, ◌-◌, ◌*◌, ◌^◌, ◌<◌, ◌≤◌, sym, ◌∙◌, ap, arith, subst}
use Rattle.lms_tree.specs.declared.band.Rows.{Rows}
use Rattle.lms_tree.specs.TreeKey.{tree_of}
use Rattle.lms_tree.specs.Served.{IsNeeded}
use Rattle.lms_tree.specs.Kept.{KeptNodes, first_served, last_served}
use Rattle.lms_tree.proofs.KeptLeaves.{leaves-in-tree, rows-of-leaves}
use Rattle.lms_tree.proofs.Served.{needed-in-tree}
use Rattle.lms_tree.proofs.Subtrees.{needed-in-lower}
use Rattle.lms_tree.proofs.kept_tree.KeptTreeNodeSource.node.Goals as goal
use Rattle.lms_tree.proofs.kept_tree.KeptTreeNodeSource.node.Goals.{After-subtree_rows-lower}

abbrev Needs : KeptNodes → ℕ → Type 0
Needs kept r = IsNeeded (tree_of kept.key).lms.h (first_served kept) (last_served kept) r

pub ilog2-level-requires : goal.ilog2-level-requires
ilog2-level-requires c =
    let self = c.self.inside in
    let h = (tree_of self.key).lms.h in
    let needed = subst (λ v. Needs v c.args.r) (sym c.self.view_is) c.requires in
    omega (arith, needed-in-tree h _ _ c.args.r (leaves-in-tree h self.subtree c.self.invariant.in_tree) needed)

-- where a needed node is in the rows of the bottom subtree
place-of-needed : (c : After-subtree_rows-lower)
    → (c.ilog2-level.result - c.upper_rows-upper.result.depth ≤ c.subtree_rows-lower.result.depth)
    × (c.subtree_rows-lower.result.first * 2 ^ (c.ilog2-level.result - c.upper_rows-upper.result.depth) ≤ c.args.r)
    × (c.args.r < (c.subtree_rows-lower.result.first + c.subtree_rows-lower.result.width)
    * 2 ^ (c.ilog2-level.result - c.upper_rows-upper.result.depth))
place-of-needed c =
    let self = c.self.inside in
    let h = (tree_of self.key).lms.h in
    let needed = subst (λ v. Needs v c.args.r) (sym c.self.view_is) c.requires in
    let top = ap (λ (rows : Rows). rows.depth) c.upper_rows-upper.ensures in
    let lower = c.subtree_rows-lower.ensures ∙ sym (rows-of-leaves h self.subtree) in
    let is = needed-in-lower h _ _ c.args.r c.ilog2-level.result
    (leaves-in-tree h self.subtree c.self.invariant.in_tree) needed
    c.ilog2-level.ensures.power_le c.ilog2-level.ensures.next_power_gt
    (omega (arith, top, c.if-level-upper.false)) in
    rw (top, lower) is

pub node_in-requires-else-level-upper-clause-level : goal.node_in-requires-else-level-upper-clause-level
node_in-requires-else-level-upper-clause-level c =
    (place-of-needed (goal.at.node_in-requires-else-level-upper-clause-level c).After-subtree_rows-lower).0

pub node_in-requires-else-level-upper-clause-from : goal.node_in-requires-else-level-upper-clause-from
node_in-requires-else-level-upper-clause-from c =
    (place-of-needed (goal.at.node_in-requires-else-level-upper-clause-from c).After-subtree_rows-lower).1

pub node_in-requires-else-level-upper-clause-to : goal.node_in-requires-else-level-upper-clause-to
node_in-requires-else-level-upper-clause-to c =
    (place-of-needed (goal.at.node_in-requires-else-level-upper-clause-to c).After-subtree_rows-lower).2
