use Rattle.std.proofs.Common.{ℕ, ◌≡◌, ◌-◌, ◌<◌, ◌≤◌, List, [], ◌∷◌, ◌++◌, length, get_or, sym, ◌∙◌, ap, arith, subst}
use Rattle.lms_spec.specs.Hss.{HssKey, capacity_of}
use Rattle.lms_hss.specs.declared.signed_tree.SignedTree.{SignedTree}
use Rattle.lms_hss.specs.Keys.{hss_key_of, tree_number}
use Rattle.lms_hss.specs.Forests.{IsSignedTree, HoldsTrees}
use Rattle.lms_hss.proofs.Forests.{top-number}
use Rattle.lms_hss.proofs.level_trees.LevelTrees.top.Goals as goal

-- one tree alone
holds-one : (key : HssKey) (start last : ℕ) (tree : SignedTree) (trees : List SignedTree) → trees ≡ tree ∷ []
    → last < capacity_of key
    → ((g : ℕ) → start ≤ g → g ≤ last → IsSignedTree key g 0 tree) → HoldsTrees key 0 start last 0 trees
holds-one key start last tree trees one within is g other from to low high =
    let here : get_or trees (tree_number key g 0 - 0) other ≡ tree
    = ap (λ n. get_or trees (n - 0) other) (top-number key g (omega arith)) ∙ ap (λ trees. get_or trees 0 other) one in
    subst (IsSignedTree key g 0) (sym here) (is g from to)

pub returns : goal.returns
returns g c =
    let key = hss_key_of c.args.key.now in
    let within = c.requires.within in
    let tree = c.in_ok-top_tree.field-0 in
    let one : c.push_reserved.new.self.items ≡ tree ∷ []
    = c.push_reserved.ensures.items ∙ ap (λ trees. trees ++ tree ∷ []) c.in_ok-trees.ensures.items in
    record {
      first = sym (top-number key c.args.start (omega (arith, within, c.requires.order)));
      count = omega (arith, ap length one, top-number key c.args.last within);
      held = holds-one key c.args.start c.args.last tree c.push_reserved.new.self.items one within
          (λ i from to. c.in_ok-top_tree.ensures i from to (top-number key i (omega (arith, to, within))));
    }
