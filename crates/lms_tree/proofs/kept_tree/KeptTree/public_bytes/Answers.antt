use Rattle.std.proofs.Common.{ℕ, ◌≡◌, List, [], get_or, ◌∙◌, ap, arith}
use Rattle.lms_spec.specs.Tree.{lms_public_key, node, public_key_of}
use Rattle.lms_tree.specs.TreeKey.{tree_of}
use Rattle.lms_tree.specs.Kept.{AreNodes, given_public, KeptNodes}
use Rattle.lms_tree.proofs.kept_tree.KeptTree.public_bytes.Goals as goal

-- the root is first among the tree's nodes
root-first : (kept : KeptNodes) → AreNodes kept → get_or kept.upper 0 [] ≡ node (tree_of kept.key) 1
root-first kept right = right.upper_are.each 0 (omega arith) 0 (omega arith)

given-is : (kept is : KeptNodes) (text : List ℕ) → kept ≡ is
    → text ≡ lms_public_key (tree_of kept.key).lms (tree_of kept.key).ots kept.key.i (get_or kept.upper 0 [])
    → text ≡ given_public is
given-is kept is text same e = e ∙ ap given_public same

pub returns-clause-given : goal.returns-clause-given
returns-clause-given c =
    let key = c.self.inside.key in
    let text : List ℕ → List ℕ = λ root. lms_public_key (tree_of key).lms (tree_of key).ots key.i root in
    given-is _ _ _ c.self.view_is
    (c.public_key_bytes.ensures ∙ ap (λ (xs : List (List ℕ)). text (get_or xs 0 [])) c.as_slice.ensures.value)

pub returns-clause-right : goal.returns-clause-right
unfolding public_key_of
returns-clause-right c right =
    let now = c.args.self.now in
    returns-clause-given c
    ∙ ap (λ root. lms_public_key (tree_of now.key).lms (tree_of now.key).ots (tree_of now.key).id root)
    (root-first now right)
