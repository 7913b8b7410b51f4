-- The trees that a range of indices goes through, and what is above them.
use Rattle.std.specs.Prelude.{ℕ, ◌≡◌, ◌+◌, ◌-◌, ◌*◌, ◌^◌, ◌<◌, ◌≤◌, List, ◌++◌, length, map, min, slice_index_or}
use Rattle.std.specs.List.{concat}
use Rattle.lms_spec.specs.Bytes.{below, u32str}
use Rattle.lms_spec.specs.Hss.{HssKey, level as level_at}
use Rattle.lms_spec.specs.Profile.{tree_at, leaf_at, signed_key, child, derived, for_randomizer}
use Rattle.lms_spec.specs.Tree.{lms_signature, public_key_of}
use Rattle.lms_params.specs.declared.lms_type.LmsType.{LmsType}
use Rattle.lms_params.specs.declared.ots_type.OtsType.{OtsType}
use Rattle.lms_tree.specs.Bands.{most_served}
use Rattle.lms_tree.specs.TreeKey.{tree_of}
use Rattle.lms_hss.specs.Levels.{level_of}
use Rattle.lms_hss.specs.Keys.{hss_key_of, tree_number}
use Rattle.lms_hss.specs.declared.key.HssKey.{HssKey as KeyOfCode}
use Rattle.lms_hss.specs.declared.key.Leaves.{Leaves}
use Rattle.lms_hss.specs.declared.level_trees.LevelTrees.{LevelTrees}
use Rattle.lms_hss.specs.declared.signed_tree.SignedTree.{SignedTree}

-- leaves that a tree of height h can serve
pub record AreLeaves (h : ℕ) (leaves : Leaves) : Type 0 where
  pub order : leaves.first ≤ leaves.last
  pub in_tree : leaves.last < 2 ^ h
  pub at_most : leaves.last - leaves.first < most_served

-- the leaves of tree `number` of level k that the indices from `start` to `end` go through
pub record AreLeavesOf (key : HssKey) (k number start end : ℕ) (leaves : Leaves) : Type 0 where
  pub first : leaves.first ≡ tree_number key start (k + 1) - number * 2 ^ (level_at key k).lms.h
  pub last : leaves.last
      ≡ min (tree_number key end (k + 1) - number * 2 ^ (level_at key k).lms.h) (2 ^ (level_at key k).lms.h - 1)
  pub served : AreLeaves (level_at key k).lms.h leaves
  pub from : (g : ℕ) → start ≤ g → tree_number key g k ≡ number → leaves.first ≤ leaf_at key g k
  pub to : (g : ℕ) → g ≤ end → tree_number key g k ≡ number → leaf_at key g k ≤ leaves.last

-- what a signature by index g has before the LMS signature of level k's tree: the number of signed
-- keys, and those of the levels down to that one (6.2)
abbrev pub signature_head : HssKey → ℕ → ℕ → List ℕ
signature_head key g k = u32str (length key.levels - 1) ++ concat (map (signed_key key g) (below k))

-- the tree of level k that index g goes through, which serves the leaf there, with what is
-- before its signatures
pub record IsSignedTree (key : HssKey) (g k : ℕ) (signed_tree : SignedTree) : Type 0 where
  pub tree : tree_of signed_tree.tree.key ≡ tree_at key g k
  pub from : signed_tree.tree.first ≤ leaf_at key g k
  pub to : leaf_at key g k ≤ signed_tree.tree.last
  pub head : signed_tree.head.items ≡ signature_head key g k

-- the tree of these sets below leaf q of `parent`, which serves these leaves and whose public key
-- leaf q signed
pub record IsChild (parent : SignedTree) (q : ℕ) (sets : LmsType × OtsType) (leaves : Leaves)
    (signed_tree : SignedTree) : Type 0 where
  pub tree : tree_of signed_tree.tree.key ≡ child (tree_of parent.tree.key) q (level_of sets)
  pub first : signed_tree.tree.first ≡ leaves.first
  pub last : signed_tree.tree.last ≡ leaves.last
  pub head : signed_tree.head.items ≡ parent.head.items
      ++ lms_signature (tree_of parent.tree.key) q
      (derived (tree_of parent.tree.key) q for_randomizer)
      (public_key_of (tree_of signed_tree.tree.key))
      ++ public_key_of (tree_of signed_tree.tree.key)

-- the same tree with the same head, which serves these leaves
pub record IsMovedTree (old : SignedTree) (leaves : Leaves) (signed_tree : SignedTree) : Type 0 where
  pub tree : tree_of signed_tree.tree.key ≡ tree_of old.tree.key
  pub first : signed_tree.tree.first ≡ leaves.first
  pub last : signed_tree.tree.last ≡ leaves.last
  pub head : signed_tree.head.items ≡ old.head.items

-- tree `number` of level k, with what is before its signatures, whichever leaves it serves
pub record IsTreeNumbered (key : HssKey) (k number : ℕ) (signed_tree : SignedTree) : Type 0 where
  pub tree : (g : ℕ) → tree_number key g k ≡ number → tree_of signed_tree.tree.key ≡ tree_at key g k
  pub head : (g : ℕ) → tree_number key g k ≡ number
      → signed_tree.head.items ≡ signature_head key g k

-- tree `number` of level k, which serves the leaves that the indices from `start` to `last` go
-- through
abbrev pub ServesRange : HssKey → ℕ → ℕ → ℕ → ℕ → SignedTree → Type 0
ServesRange key k number start last signed_tree =
    (g : ℕ) → start ≤ g → g ≤ last → tree_number key g k ≡ number → IsSignedTree key g k signed_tree

-- trees of level k side by side, whichever leaves they serve
abbrev pub AreTrees : HssKey → ℕ → LevelTrees → Type 0
AreTrees key k level =
    (n : ℕ) (other : SignedTree) → level.first ≤ n → n < level.first + length level.trees.items
    → IsTreeNumbered key k n (slice_index_or level.trees.items (n - level.first) other)

-- trees of as many levels as the list has, from level k down
abbrev pub AreLevelsFrom : HssKey → ℕ → List LevelTrees → Type 0
AreLevelsFrom key k levels =
    (j : ℕ) (other : LevelTrees) → j < length levels → AreTrees key (k + j) (slice_index_or levels j other)

-- trees of level k side by side, from number `first` on, for the indices from `start` to `last`
abbrev pub HoldsTrees : HssKey → ℕ → ℕ → ℕ → ℕ → List SignedTree → Type 0
HoldsTrees key k start last first trees =
    (g : ℕ) (other : SignedTree) → start ≤ g → g ≤ last → first ≤ tree_number key g k
    → tree_number key g k < first + length trees
    → IsSignedTree key g k (slice_index_or trees (tree_number key g k - first) other)

-- the trees of level k that the indices from `start` to `last` go through
pub record HoldsLevel (key : HssKey) (k start last : ℕ) (level : LevelTrees) : Type 0 where
  pub first : level.first ≡ tree_number key start k
  pub count : level.first + length level.trees.items ≡ tree_number key last k + 1
  pub held : HoldsTrees key k start last level.first level.trees.items

-- the trees of the bottom level that the `len` indices from `start` on go through
pub record HoldsBottom (key : KeyOfCode) (start len : ℕ) (bottom : LevelTrees) : Type 0 where
  pub id_length : length key.i ≡ 16
  pub some_index : 1 ≤ len
  pub level : HoldsLevel (hss_key_of key) (length key.levels - 1) start (start + (len - 1)) bottom
