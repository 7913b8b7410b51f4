use Rattle.std.proofs.Common.{◌+◌, ◌-◌, length, get_or, sym, ◌∙◌, ap, arith, subst}
use Rattle.lms_hss.specs.declared.key.HssKey.{HssKey}
use Rattle.lms_hss.specs.Keys.{hss_key_of, tree_number}
use Rattle.lms_hss.specs.Forests.{IsSignedTree}
use Rattle.lms_hss.proofs.Forests.{bottom-is, bottom-to}
use Rattle.lms_hss.proofs.forest.Forest.bottom_tree.Goals as goal

pub tree-requires-clause-to : goal.tree-requires-clause-to
tree-requires-clause-to c =
    let key = ap (λ v. v.key) c.self.view_is in
    let len = ap (λ v. v.start + v.len) c.self.view_is in
    let bottom = c.requires.bottom ∙ ap (λ (key : HssKey). length key.levels - 1) (sym key) in
    let number = c.tree_number.ensures ∙ ap (tree_number (hss_key_of c.self.inside.key) c.args.g) bottom in
    omega (
      arith,
      number,
      bottom-to c.self.inside.key c.self.inside.start c.self.inside.len c.args.g c.self.inside.bottom c.self.invariant.0
          (omega (arith, len, c.requires.covered.1)),
    )

pub returns : goal.returns
returns c =
    let bottom = c.self.inside.bottom in
    let tree = c.tree.result.now in
    let key = ap (λ v. v.key) c.self.view_is in
    let start = ap (λ v. v.start) c.self.view_is in
    let len = ap (λ v. v.start + v.len) c.self.view_is in
    let level = c.requires.bottom ∙ ap (λ (key : HssKey). length key.levels - 1) (sym key) in
    let number = c.tree_number.ensures ∙ ap (tree_number (hss_key_of c.self.inside.key) c.args.g) level in
    let found = c.tree.ensures ∙ ap (λ n. get_or bottom.trees.items (n - bottom.first) tree) number in
    let is = bottom-is c.self.inside.key c.self.inside.start c.self.inside.len c.args.g bottom tree c.self.invariant.0
    (omega (arith, start, c.requires.covered.0)) (omega (arith, len, c.requires.covered.1)) found in
    subst (λ k. IsSignedTree (hss_key_of c.args.self.now.key) c.args.g k tree) (sym c.requires.bottom)
    (subst (λ key. IsSignedTree (hss_key_of key) c.args.g (length key.levels - 1) tree) key is)
