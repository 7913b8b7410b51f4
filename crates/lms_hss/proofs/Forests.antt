-- The trees of a level, and those of the next.
use Rattle.std.proofs.Common.{ℕ, suc, ◌≡◌, ◌+◌, ◌-◌, ◌*◌, ◌/◌, ◌^◌, ◌<◌, ◌≤◌, List, [], ◌∷◌, ◌++◌, length, map, drop}
use Rattle.std.proofs.Common.{get_or, refl, sym, ◌∙◌, ap, ap₂, arith, subst, ⊎_elim, pow_pos, append_assoc}
use Rattle.std.proofs.Common.{length-append, shr-shr}
use Rattle.std.specs.List.{concat}
use Rattle.std.proofs.lemmas.List.{get_or_append_left}
use Rattle.std.proofs.Math.Seq.{get_or-append_seam}
use Rattle.std.proofs.Math.Nat.{eq-or-lt_of_le, div-eq_of_lt, mul-div_cancel, div-mul-le_self, div-lt_iff_lt-mul}
use Rattle.std.proofs.Math.Nat.{le-div_iff_mul-le}
use Rattle.std.proofs.lemmas.Nat.{le-div}
use Rattle.lms_spec.specs.Bytes.{below, u32str}
use Rattle.lms_spec.specs.Tree.{Tree, public_key_of, lms_signature}
use Rattle.lms_spec.specs.Hss.{HssKey, level as level_at, height_of, capacity_of}
use Rattle.lms_spec.specs.Profile.{leaf_at, for_randomizer, derived, child, tree_at, signed_key, hss_signature}
use Rattle.lms_spec.proofs.Below.{concat-below-suc}
use Rattle.lms_spec.proofs.Hierarchies.{signature-parts}
use Rattle.lms_spec.proofs.Places.{height-more}
use Rattle.lms_tree.specs.TreeKey.{tree_of}
use Rattle.lms_params.specs.declared.lms_type.LmsType.{LmsType}
use Rattle.lms_params.specs.declared.ots_type.OtsType.{OtsType}
use Rattle.lms_hss.specs.Levels.{level_of}
use Rattle.lms_hss.specs.declared.key.HssKey.{HssKey as KeyOfCode}
use Rattle.lms_hss.specs.declared.key.Leaves.{Leaves}
use Rattle.lms_hss.specs.declared.level_trees.LevelTrees.{LevelTrees}
use Rattle.lms_hss.specs.declared.signed_tree.SignedTree.{SignedTree}
use Rattle.lms_hss.specs.Keys.{hss_key_of, tree_number}
use Rattle.lms_hss.specs.Forests.{signature_head, IsChild, IsSignedTree, HoldsTrees, HoldsLevel, HoldsBottom}

-- the tree above a tree, by their numbers
pub number-above : (key : HssKey) (g k : ℕ) → k < length key.levels
    → tree_number key g (k + 1) / 2 ^ (level_at key k).lms.h ≡ tree_number key g k
number-above key g k there =
    let low = height_of (drop (k + 1) key.levels) in
    let top = (level_at key k).lms.h in
    let whole : low + top ≡ height_of (drop k key.levels) = omega (arith, height-more key k there) in
    shr-shr g low top ∙ ap (λ n. g / 2 ^ n) whole

part-order : (a b n : ℕ) → a ≤ b → a / 2 ^ n ≤ b / 2 ^ n
part-order a b n order = le-div (a / 2 ^ n) b (2 ^ n) (pow_pos n) (omega (arith, div-mul-le_self a (2 ^ n)))

-- a later index goes through no earlier tree
pub number-order : (key : HssKey) (k g g' : ℕ) → g ≤ g' → tree_number key g k ≤ tree_number key g' k
number-order key k g g' order = part-order g g' (height_of (drop k key.levels)) order

-- an index from a range goes through each tree between those of its ends
pub some-index : (key : HssKey) (k start last n : ℕ) → start ≤ last → tree_number key start k ≤ n
    → n ≤ tree_number key last k
    → (g : ℕ) × (start ≤ g) × (g ≤ last) × (tree_number key g k ≡ n)
some-index key k start last n order from to =
    let size = 2 ^ height_of (drop k key.levels) in
    let some = pow_pos (height_of (drop k key.levels)) in
    ⊎_elim
    (λ e. (start, omega arith, order, e))
    (λ lt. let first : start < n * size = (div-lt_iff_lt-mul some).0 lt in
    let last_of : n * size ≤ last = (le-div_iff_mul-le some).0 to in
    (n * size, omega arith, last_of, mul-div_cancel n some))
    (eq-or-lt_of_le {n = tree_number key start k} {m = n} from)

-- trees from that of an index on are below trees from that of the index on
pub above-from : (key : HssKey) (k g n : ℕ) → k < length key.levels → tree_number key g (k + 1) ≤ n
    → tree_number key g k ≤ n / 2 ^ (level_at key k).lms.h
above-from key k g n there from =
    omega (arith, number-above key g k there, part-order (tree_number key g (k + 1)) n (level_at key k).lms.h from)

-- and trees up to that of an index below trees up to that of the index
pub above-to : (key : HssKey) (k g n : ℕ) → k < length key.levels → n ≤ tree_number key g (k + 1)
    → n / 2 ^ (level_at key k).lms.h ≤ tree_number key g k
above-to key k g n there to =
    omega (arith, number-above key g k there, part-order n (tree_number key g (k + 1)) (level_at key k).lms.h to)

-- all indices go through the top tree
pub top-number : (key : HssKey) (g : ℕ) → g < capacity_of key → tree_number key g 0 ≡ 0
top-number key g low = div-eq_of_lt low

-- the tree of level 0 is the key's top tree
pub top-is : (key : HssKey) (start last : ℕ) (level : LevelTrees) (tree : SignedTree)
    → HoldsLevel key 0 start last level → start ≤ last
    → last < capacity_of key → tree ≡ get_or level.trees.items (0 - level.first) tree
    → tree_of tree.tree.key ≡ tree_at key 0 0
top-is key start last level tree held order within found =
    let zero = top-number key start (omega arith) in
    let here : tree ≡ get_or level.trees.items (tree_number key start 0 - level.first) tree
    = found ∙ ap (λ n. get_or level.trees.items (n - level.first) tree) (sym zero) in
    let is = held.held start tree (omega arith) order (omega (arith, held.first))
    (omega (arith, held.count, number-order key 0 start last order)) in
    (subst (IsSignedTree key start 0) (sym here) is).tree

-- the tree below a leaf
pub tree-below : (key : HssKey) (g k : ℕ)
    → tree_at key g (k + 1) ≡ child (tree_at key g k) (leaf_at key g k) (level_at key (k + 1))
tree-below key g k =
    let next : suc k ≡ k + 1 = omega arith in
    subst (λ n. tree_at key g n ≡ child (tree_at key g k) (leaf_at key g k) (level_at key n)) next refl

-- the tree below the leaf that an index goes through
pub signed-child : (key : HssKey) (g k q : ℕ) (sets : LmsType × OtsType) (leaves : Leaves) (parent tree : SignedTree)
    → IsSignedTree key g k parent → q ≡ leaf_at key g k
    → level_of sets ≡ level_at key (k + 1) → leaves.first ≤ leaf_at key g (k + 1) → leaf_at key g (k + 1) ≤ leaves.last
    → IsChild parent q sets leaves tree → IsSignedTree key g (k + 1) tree
unfolding signed_key
signed-child key g k q sets leaves parent tree is leaf at from to made =
    let count = u32str (length key.levels - 1) in
    let before = concat (map (signed_key key g) (below k)) in
    let signed : Tree → ℕ → Tree → List ℕ =
    λ t q next. lms_signature t q (derived t q for_randomizer) (public_key_of next) in
    let here : tree_of tree.tree.key ≡ tree_at key g (k + 1)
    = made.tree
    ∙ (ap (child (tree_of parent.tree.key) q) at
    ∙ (ap₂ (λ t q. child t q (level_at key (k + 1))) is.tree leaf ∙ sym (tree-below key g k))) in
    let parts : tree.head.items ≡ (count ++ before) ++ signed_key key g k
    = made.head
    ∙ (ap₂ (λ head t.
    head ++ signed t q (tree_of tree.tree.key) ++ public_key_of (tree_of tree.tree.key)) is.head is.tree
    ∙ (ap₂ (λ q next. (count ++ before) ++ signed (tree_at key g k) q next ++ public_key_of next) leaf here
    ∙ append_assoc (count ++ before) (signed (tree_at key g k) (leaf_at key g k) (tree_at key g (k + 1)))
    (public_key_of (tree_at key g (k + 1))))) in
    record {
      tree = here;
      from = omega (arith, made.first, from);
      to = omega (arith, made.last, to);
      head = parts ∙ (append_assoc count before (signed_key key g k)
          ∙ ap (λ text. count ++ text) (sym (concat-below-suc (signed_key key g) k)));
    }

-- one more tree of a level
pub holds-more : (key : HssKey) (k start last first n : ℕ) (trees : List SignedTree) (tree : SignedTree)
    → HoldsTrees key k start last first trees
    → first + length trees ≡ n → ((g : ℕ) → start ≤ g → g ≤ last → tree_number key g k ≡ n → IsSignedTree key g k tree)
    → HoldsTrees key k start last first (trees ++ tree ∷ [])
holds-more key k start last first n trees tree held count is g other after before from to =
    let number = tree_number key g k in
    ⊎_elim
    (λ e. let place : number - first ≡ length trees = omega (arith, count) in
    let same : get_or (trees ++ tree ∷ []) (number - first) other ≡ tree
    = ap (λ i. get_or (trees ++ tree ∷ []) i other) place ∙ get_or-append_seam trees tree [] other in
    subst (IsSignedTree key g k) (sym same) (is g after before e))
    (λ lt. let same = get_or_append_left trees (tree ∷ []) other (number - first) (omega (arith, count)) in
    subst (IsSignedTree key g k) (sym same) (held g other after before from (omega (arith, count))))
    (eq-or-lt_of_le {n = number} {m = n} (omega (arith, count, length-append trees (tree ∷ []))))

-- the tree above tree n of the next level
pub parent-is : (key : HssKey) (k start last n p : ℕ) (level : LevelTrees) (parent : SignedTree)
    → k < length key.levels → HoldsLevel key k start last level → p ≡ n / 2 ^ (level_at key k).lms.h
    → parent ≡ get_or level.trees.items (p - level.first) parent
    → (g : ℕ) → start ≤ g → g ≤ last → tree_number key g (k + 1) ≡ n → IsSignedTree key g k parent
parent-is key k start last n p level parent there held at found g from to e =
    let same : tree_number key g k ≡ p =
    sym (number-above key g k there) ∙ (ap (λ m. m / 2 ^ (level_at key k).lms.h) e ∙ sym at) in
    let after = number-order key k start g from in
    let before = number-order key k g last to in
    let here = held.held g parent from to (omega (arith, held.first, after)) (omega (arith, held.count, before)) in
    subst (IsSignedTree key g k) (sym found)
    (subst (λ m. IsSignedTree key g k (get_or level.trees.items (m - level.first) parent)) same here)

-- the bottom tree of an index that is covered is among those held
pub bottom-to : (key : KeyOfCode) (start len g : ℕ) (bottom : LevelTrees) → HoldsBottom key start len bottom
    → g < start + len
    → tree_number (hss_key_of key) g (length key.levels - 1) < bottom.first + length bottom.trees.items
bottom-to key start len g bottom held to =
    let k = length key.levels - 1 in
    omega (
      arith,
      held.level.count,
      number-order (hss_key_of key) k g (start + (len - 1)) (omega (arith, held.some_index)),
    )

-- the bottom tree of an index that is covered
pub bottom-is : (key : KeyOfCode) (start len g : ℕ) (bottom : LevelTrees) (tree : SignedTree)
    → HoldsBottom key start len bottom
    → start ≤ g → g < start + len
    → tree ≡ get_or bottom.trees.items (tree_number (hss_key_of key) g (length key.levels - 1) - bottom.first) tree
    → IsSignedTree (hss_key_of key) g (length key.levels - 1) tree
bottom-is key start len g bottom tree held from to found =
    let whole = hss_key_of key in
    let k = length key.levels - 1 in
    let after = number-order whole k start g from in
    subst (IsSignedTree whole g k) (sym found)
    (held.level.held g tree from (omega (arith, held.some_index, to)) (omega (arith, held.level.first, after))
    (bottom-to key start len g bottom held to))

-- what the bottom tree of an index signs is the signature by that index
pub signature-is : (key : HssKey) (g k q : ℕ) (tree : SignedTree) (randomizer message : List ℕ)
    → IsSignedTree key g k tree → k ≡ length key.levels - 1
    → q ≡ leaf_at key g k → tree.head.items ++ lms_signature (tree_of tree.tree.key) q randomizer message
    ≡ hss_signature key g randomizer message
signature-is key g k q tree randomizer message is bottom leaf =
    ap₂ (λ head t. head ++ lms_signature t q randomizer message) is.head is.tree
    ∙ (ap (λ q. signature_head key g k ++ lms_signature (tree_at key g k) q randomizer message) leaf
    ∙ (ap (λ k. signature_head key g k ++ lms_signature (tree_at key g k) (leaf_at key g k) randomizer message) bottom
    ∙ sym (signature-parts key g randomizer message)))
