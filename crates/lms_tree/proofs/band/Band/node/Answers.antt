use Rattle.std.proofs.Common.{sym, ◌∙◌, ap, subst}
use Rattle.lms_spec.specs.Tree.{node}
use Rattle.lms_tree.specs.TreeKey.{tree_of}
use Rattle.lms_tree.specs.Held.{RowsOf, HoldsRows}
use Rattle.lms_tree.proofs.band.Band.node.Goals as goal

pub returns : goal.returns
returns c =
    let self = c.self.inside in
    c.node_in.ensures self.key (subst (HoldsRows self.key self.rows) (sym c.deref.ensures.value) c.self.invariant)
    ∙ ap (λ (v : RowsOf). node (tree_of v.key) c.args.r) c.self.view_is
