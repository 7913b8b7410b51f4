-- Trees of a level by their numbers, whichever leaves they serve.
use Rattle.std.proofs.Common.{ℕ, ◌≡◌, ◌+◌, ◌-◌, ◌<◌, ◌≤◌, List, [], ◌∷◌, ◌++◌, length, get_or, sym, ◌∙◌, ap, arith}
use Rattle.std.proofs.Common.{subst}
use Rattle.std.proofs.Common.{⊎_elim, length-append}
use Rattle.std.proofs.lemmas.List.{get_or_append_left}
use Rattle.std.proofs.Math.Seq.{get_or-append_seam}
use Rattle.std.proofs.Math.Nat.{eq-or-lt_of_le}
use Rattle.lms_spec.specs.Bytes.{u32str}
use Rattle.lms_spec.specs.Tree.{Tree}
use Rattle.lms_spec.specs.Hss.{HssKey, level as level_at}
use Rattle.lms_spec.proofs.Hierarchies.{level-lms}
use Rattle.lms_tree.specs.TreeKey.{tree_of}
use Rattle.lms_hss.specs.declared.key.Leaves.{Leaves}
use Rattle.lms_hss.specs.declared.level_trees.LevelTrees.{LevelTrees}
use Rattle.lms_hss.specs.declared.signed_tree.SignedTree.{SignedTree}
use Rattle.lms_hss.specs.Keys.{tree_number}
use Rattle.lms_hss.specs.Forests.{AreLeavesOf, AreLevelsFrom, AreTrees, HoldsLevel, IsMovedTree, IsSignedTree}
use Rattle.lms_hss.specs.Forests.{IsTreeNumbered, ServesRange}
use Rattle.lms_hss.proofs.Forests.{some-index}
use Rattle.lms_hss.proofs.SharedWays.{tree-same, keys-same}

-- the tree that an index goes through
numbered : (key : HssKey) (k g n : ℕ) (tree : SignedTree) → k < length key.levels → tree_number key g k ≡ n
    → IsSignedTree key g k tree → IsTreeNumbered key k n tree
numbered key k g n tree there at is = record {
  tree = λ g' at'. is.tree ∙ tree-same key k g g' there (at ∙ sym at');
  head = λ g' at'.
      is.head
      ∙ ap (λ text. u32str (length key.levels - 1) ++ text) (keys-same key k g g' there (at ∙ sym at'));
}

-- those of a level that is held
pub trees-of-level : (key : HssKey) (k start last : ℕ) (level : LevelTrees) → k < length key.levels → start ≤ last
    → HoldsLevel key k start last level → AreTrees key k level
trees-of-level key k start last level there order held n other from to =
    let through = some-index key k start last n order (omega (arith, held.first, from))
    (omega (arith, held.count, to)) in
    let g = through.0 in
    let at = through.3 in
    let is = held.held g other through.1 through.2 (omega (arith, at, from)) (omega (arith, at, to)) in
    numbered key k g n (get_or level.trees.items (n - level.first) other) there at
    (subst (λ m. IsSignedTree key g k (get_or level.trees.items (m - level.first) other)) at is)

-- one of them, once it moved on
pub moved-serves : (key : HssKey) (k number start last : ℕ) (leaves : Leaves) (old tree : SignedTree)
    → IsTreeNumbered key k number old → AreLeavesOf key k number start last leaves → IsMovedTree old leaves tree
    → ServesRange key k number start last tree
moved-serves key k number start last leaves old tree is served moved g from to at = record {
  tree = moved.tree ∙ is.tree g at;
  from = omega (arith, moved.first, served.from g from at);
  to = omega (arith, moved.last, served.to g to at);
  head = moved.head ∙ is.head g at;
}

-- its height
pub numbered-height : (key : HssKey) (k number start last : ℕ) (tree : SignedTree) → start ≤ last
    → tree_number key start k ≤ number → number ≤ tree_number key last k → IsTreeNumbered key k number tree
    → (level_at key k).lms.h ≡ (tree_of tree.tree.key).lms.h
numbered-height key k number start last tree order from to is =
    let through = some-index key k start last number order from to in
    sym (ap (λ (t : Tree). t.lms.h) (is.tree through.0 through.3) ∙ ap (λ l. l.h) (level-lms key through.0 k))

-- the trees of the first of some levels
pub first-trees : (key : HssKey) (k : ℕ) (levels : List LevelTrees) (level : LevelTrees) → 0 < length levels
    → level ≡ get_or levels 0 level → AreLevelsFrom key k levels → AreTrees key k level
first-trees key k levels level some first are =
    let zero : k + 0 ≡ k = omega arith in
    subst (AreTrees key k) (sym first) (subst (λ k. AreTrees key k (get_or levels 0 level)) zero (are 0 level some))

-- and the other levels
pub other-levels : (key : HssKey) (k : ℕ) (levels others : List LevelTrees) → length others + 1 ≡ length levels
    → ((j : ℕ) (d : LevelTrees) → 0 ≤ j → get_or others j d ≡ get_or levels (j + 1) d) → AreLevelsFrom key k levels
    → AreLevelsFrom key (k + 1) others
other-levels key k levels others count down are j other low =
    let place : k + (j + 1) ≡ (k + 1) + j = omega arith in
    subst (AreTrees key (k + 1 + j)) (sym (down j other (omega arith)))
    (subst (λ k. AreTrees key k (get_or levels (j + 1) other)) place (are (j + 1) other (omega (arith, count, low))))

-- a tree taken out of a level
pub taken-tree : (key : HssKey) (k number : ℕ) (level : LevelTrees) (tree : SignedTree) → AreTrees key k level
    → level.first ≤ number → number < level.first + length level.trees.items
    → tree ≡ get_or level.trees.items (number - level.first) tree → IsTreeNumbered key k number tree
taken-tree key k number level tree are from to found =
    subst (IsTreeNumbered key k number) (sym found) (are number tree from to)

-- one more level
pub levels-more : (key : HssKey) (k : ℕ) (levels more : List LevelTrees) (level : LevelTrees)
    → more ≡ levels ++ level ∷ [] → length levels ≡ k → AreLevelsFrom key 0 levels → AreTrees key k level
    → AreLevelsFrom key 0 more
levels-more key k levels more level parts count are is j other low =
    subst (λ levels. AreTrees key (0 + j) (get_or levels j other)) (sym parts)
    (⊎_elim
    (λ e. let place : j ≡ length levels = e ∙ sym count in
    let same : get_or (levels ++ level ∷ []) j other ≡ level
    = ap (λ i. get_or (levels ++ level ∷ []) i other) place ∙ get_or-append_seam levels level [] other in
    let zero : k ≡ 0 + j = omega (arith, e) in
    subst (AreTrees key (0 + j)) (sym same) (subst (λ k. AreTrees key k level) zero is))
    (λ lt. let same = get_or_append_left levels (level ∷ []) other j (omega (arith, count, lt)) in
    subst (AreTrees key (0 + j)) (sym same) (are j other (omega (arith, count, lt))))
    (eq-or-lt_of_le {n = j} {m = k}
    (omega (arith, low, count, ap length parts, length-append levels (level ∷ [])))))
