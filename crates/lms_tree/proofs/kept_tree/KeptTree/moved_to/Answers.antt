use Rattle.std.proofs.Common.{List, ℕ, ◌≡◌, ◌+◌, ◌-◌, ◌*◌, ◌^◌, ◌<◌, [], get_or, sym, ◌∙◌, ap, arith, subst}
use Rattle.lms_spec.specs.Tree.{node}
use Rattle.lms_tree.specs.declared.tree_key.TreeKey.{TreeKey}
use Rattle.lms_tree.specs.TreeKey.{tree_of}
use Rattle.lms_tree.specs.Held.{RowsOf}
use Rattle.lms_tree.specs.Kept.{AreNodes, KeptNodes, kept_nodes_of, subtree_root, upper_height}
use Rattle.lms_tree.proofs.kept_tree.KeptTree.moved_to.Goals as goal

-- among nodes of the tree is the root of each bottom subtree
root-among-nodes : (kept : KeptNodes) (n : ℕ) → n < 2 ^ upper_height (tree_of kept.key).lms.h → AreNodes kept
    → get_or kept.upper (2 ^ upper_height (tree_of kept.key).lms.h - 1 + n) []
    ≡ node (tree_of kept.key) (subtree_root (tree_of kept.key).lms.h n)
root-among-nodes kept n low genuine =
    let t = upper_height (tree_of kept.key).lms.h in
    let place : 1 * 2 ^ t - 1 + n ≡ 2 ^ t - 1 + n = omega arith in
    let here : 1 * 2 ^ t + n ≡ 2 ^ t + n = omega arith in
    ap (λ i. get_or kept.upper i []) (sym place)
    ∙ (genuine.upper_are.each t (omega arith) n (omega (arith, low)) ∙ ap (node (tree_of kept.key)) here)

pub returns-then-not-has_root-clause-refused : goal.returns-then-not-has_root-clause-refused
returns-then-not-has_root-clause-refused g c genuine =
    let n = c.args.subtree in
    let self = c.tree.inside in
    let held = kept_nodes_of self.key self.subtree self.upper.items self.lower.items in
    let right : AreNodes held = subst AreNodes (sym c.tree.view_is) genuine in
    let low : n < 2 ^ upper_height (tree_of held.key).lms.h =
    subst (λ (v : KeptNodes). n < 2 ^ upper_height (tree_of v.key).lms.h) (sym c.tree.view_is) c.requires in
    let IsThere : TreeKey → Type 0
    = λ key. get_or c.deref.result.now (2 ^ upper_height (tree_of key).lms.h - 1 + n) []
    ≡ node (tree_of key) (subtree_root (tree_of key).lms.h n) in
    let same : c.build-band.result.key ≡ held.key = ap (λ (v : RowsOf). v.key) c.build-band.ensures in
    let there : IsThere c.build-band.result.key
    = subst IsThere (sym same)
    (ap (λ (xs : List (List ℕ)). get_or xs (2 ^ upper_height (tree_of held.key).lms.h - 1 + n) [])
    c.deref.ensures.value ∙ root-among-nodes held n low right) in
    let yes = c.has_root.ensures.1 there in
    let no = c.if-not-has_root.true in
    absurd cc
