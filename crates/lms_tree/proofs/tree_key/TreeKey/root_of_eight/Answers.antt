use Rattle.std.proofs.Common.{◌≡◌, ◌∙◌, ◌+◌, ◌*◌, ◌^◌, ◌<◌, ◌≤◌, ℕ, List, [], get_or, ap, ap₂, sym, arith}
use Rattle.lms_spec.specs.Tree.{Tree, inner_hash, node}
use Rattle.lms_spec.proofs.Nodes.{node-inner}
use Rattle.lms_params.specs.LmsType.{lms_set_of}
use Rattle.lms_params.specs.declared.lms_type.LmsType.{LmsType}
use Rattle.lms_params.specs.declared.lms_type.LmsType.TheVariants.{H5, H10, H15, H20, H25}
use Rattle.lms_tree.specs.TreeKey.{tree_of}
use Rattle.lms_tree.proofs.tree_key.TreeKey.root_of_eight.Goals as goal

-- four times a node that has leaves three rows below is at most 2^h - 4
fours : (lms : LmsType) (r : ℕ) → 4 * r < 2 ^ (lms_set_of lms).h → 4 * r + 4 ≤ 2 ^ (lms_set_of lms).h
fours H5 r to = omega (arith, to)
fours H10 r to = omega (arith, to)
fours H15 r to = omega (arith, to)
fours H20 r to = omega (arith, to)
fours H25 r to = omega (arith, to)

-- a node, by its two children
from-two : (tree : Tree) (r l m : ℕ) (value left right : List ℕ) → 1 ≤ r → r < 2 ^ tree.lms.h
    → l ≡ 2 * r → m ≡ 2 * r + 1
    → value ≡ inner_hash tree.id r left right → left ≡ node tree l → right ≡ node tree m → value ≡ node tree r
from-two tree r l m value left right some above el er is a b =
    is
    ∙ (ap₂ (inner_hash tree.id r) (a ∙ ap (node tree) el) (b ∙ ap (node tree) er) ∙ sym (node-inner tree r some above))

pub returns : goal.returns
returns c =
    let tree = tree_of c.args.self.now in
    let r : ℕ = c.args.r in
    let all : ℕ = 2 ^ tree.lms.h in
    let from : all ≤ 8 * r = c.requires.from in
    let to : 4 * r < all = c.requires.to in
    let whole : 4 * r + 4 ≤ all = fours c.args.self.now.lms r to in
    let leaf : (k : ℕ) → k < 8 → get_or c.neighbouring_leaves-leaves.result k [] ≡ node tree (8 * r + k) = λ k lt.
    c.neighbouring_leaves-leaves.ensures.values k lt
    ∙ ap (node tree) (omega (arith, from, c.leaf_count.ensures.count)) in
    let a = from-two tree (4 * r) (8 * r + 0) (8 * r + 1) c.inner_hash-first.result
    (get_or c.neighbouring_leaves-leaves.result 0 []) (get_or c.neighbouring_leaves-leaves.result 1 [])
    (omega (arith, from, to)) (omega (arith, whole)) (omega arith) (omega arith) c.inner_hash-first.ensures
    (leaf 0 (omega arith)) (leaf 1 (omega arith)) in
    let b = from-two tree (4 * r + 1) (8 * r + 2) (8 * r + 3) c.inner_hash-second.result
    (get_or c.neighbouring_leaves-leaves.result 2 []) (get_or c.neighbouring_leaves-leaves.result 3 []) (omega arith)
    (omega (arith, whole)) (omega arith) (omega arith) c.inner_hash-second.ensures (leaf 2 (omega arith))
    (leaf 3 (omega arith)) in
    let d = from-two tree (4 * r + 2) (8 * r + 4) (8 * r + 5) c.inner_hash-third.result
    (get_or c.neighbouring_leaves-leaves.result 4 []) (get_or c.neighbouring_leaves-leaves.result 5 []) (omega arith)
    (omega (arith, whole)) (omega arith) (omega arith) c.inner_hash-third.ensures (leaf 4 (omega arith))
    (leaf 5 (omega arith)) in
    let e = from-two tree (4 * r + 3) (8 * r + 6) (8 * r + 7) c.inner_hash-fourth.result
    (get_or c.neighbouring_leaves-leaves.result 6 []) (get_or c.neighbouring_leaves-leaves.result 7 []) (omega arith)
    (omega (arith, whole)) (omega arith) (omega arith) c.inner_hash-fourth.ensures (leaf 6 (omega arith))
    (leaf 7 (omega arith)) in
    let left = from-two tree (2 * r) (4 * r)
    (4 * r + 1) c.inner_hash-left.result c.inner_hash-first.result c.inner_hash-second.result (omega (arith, from, to))
    (omega (arith, whole)) (omega arith) (omega arith) c.inner_hash-left.ensures a b in
    let right = from-two tree (2 * r + 1) (4 * r + 2)
    (4 * r + 3) c.inner_hash-right.result c.inner_hash-third.result c.inner_hash-fourth.result (omega arith)
    (omega (arith, whole)) (omega arith) (omega arith) c.inner_hash-right.ensures d e in
    from-two tree r (2 * r) (2 * r + 1) c.inner_hash.result c.inner_hash-left.result c.inner_hash-right.result
    (omega (arith, from, to)) (omega (arith, whole)) (omega arith) (omega arith) c.inner_hash.ensures left right
