use Rattle.std.proofs.Common.{◌≡◌, ◌+◌, ◌-◌, ◌^◌, [], get_or, ◌∙◌, ap, rules, sym}
use Rattle.std.proofs.lemmas.Bool.Decides.{Decides-eqb, Decides-like}
use Rattle.std.proofs.lemmas.Slice.Eq.{slice_eq-Decides}
use Rattle.lms_spec.specs.Tree.{node}
use Rattle.lms_tree.specs.declared.band.Rows.{Rows}
use Rattle.lms_tree.specs.TreeKey.{tree_of}
use Rattle.lms_tree.specs.Kept.{subtree_root, upper_height}
use Rattle.lms_tree.proofs.kept_tree.has_root.Goals as goal

pub returns : goal.returns
returns c =
    let h = (tree_of c.args.band.now.key).lms.h in
    let t = upper_height h in
    let n = c.args.subtree in
    let top = ap (λ (rows : Rows). rows.first) (c.rows.ensures.rows ∙ c.requires.rows) in
    let given : _ ≡ get_or c.args.upper.now (2 ^ t - 1 + n) [] = search rules in
    let root : c.node.result ≡ node (tree_of c.args.band.now.key) (subtree_root h n) =
    c.node.ensures ∙ ap (node (tree_of c.args.band.now.key)) top in
    Decides-like c.eq.result (λ e. sym given ∙ (e ∙ root)) (λ e. given ∙ (e ∙ sym root))
    (slice_eq-Decides Decides-eqb _ c.node.result c.eq.result c.eq.ensures)
