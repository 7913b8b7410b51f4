-- Nodes of a tree as they were given, as from a file: any values may be there.
use Rattle.std.specs.Prelude.{ℕ, ◌≡◌, ◌+◌, ◌-◌, ◌*◌, ◌/◌, ◌^◌, ◌<◌, List, [], ◌++◌, length, slice_index_or}
use Rattle.lms_spec.specs.HashLength.{hash_length}
use Rattle.lms_spec.specs.Bytes.{u32str}
use Rattle.lms_spec.specs.Ots.{ots_signature}
use Rattle.lms_spec.specs.Tree.{Tree, lms_public_key, node}
use Rattle.lms_tree.specs.declared.tree_key.TreeKey.{TreeKey}
use Rattle.lms_tree.specs.declared.band.Rows.{Rows}
use Rattle.lms_tree.specs.TreeKey.{tree_of}
use Rattle.lms_tree.specs.Bands.{bottom_height, root_rows}
use Rattle.lms_tree.specs.Held.{nodes_in, HoldsRows}

-- what contracts see of a `KeptTree`: a key, the number of the bottom subtree whose leaves are
-- served, and two lists of nodes
pub record KeptNodes : Type 0 where
  pub key : TreeKey
  pub subtree : ℕ
  pub upper : List (List ℕ)
  pub lower : List (List ℕ)

-- these four as one value
abbrev pub kept_nodes_of : TreeKey → ℕ → List (List ℕ) → List (List ℕ) → KeptNodes
kept_nodes_of key subtree upper lower =
    record { key = key; subtree = subtree; upper = upper; lower = lower }

-- the height of what is above the bottom subtrees of a tree of height h
abbrev pub upper_height : ℕ → ℕ
upper_height h = h - bottom_height h

-- the rows from the root down to the roots of the bottom subtrees
abbrev pub upper_rows : ℕ → Rows
upper_rows h = root_rows (upper_height h)

-- the root of bottom subtree n
abbrev pub subtree_root : ℕ → ℕ → ℕ
subtree_root h n = 2 ^ upper_height h + n

-- all rows of bottom subtree n
abbrev pub subtree_rows : ℕ → ℕ → Rows
subtree_rows h n = record { first = subtree_root h n; width = 1; depth = bottom_height h }

-- each is as long as a node
abbrev pub AreHashes : List (List ℕ) → Type 0
AreHashes nodes = (i : ℕ) → i < length nodes → length (slice_index_or nodes i []) ≡ hash_length

-- as many nodes as these rows have, whatever their values
pub record FillsRows (rows : Rows) (nodes : List (List ℕ)) : Type 0 where
  pub count : length nodes ≡ nodes_in rows
  pub sizes : AreHashes nodes

-- the number is that of a bottom subtree, and there are as many nodes as serve it
pub record HasShape (kept : KeptNodes) : Type 0 where
  pub in_tree : kept.subtree < 2 ^ upper_height (tree_of kept.key).lms.h
  pub upper : FillsRows (upper_rows (tree_of kept.key).lms.h) kept.upper
  pub lower : FillsRows (subtree_rows (tree_of kept.key).lms.h kept.subtree) kept.lower

-- the public key over what was given for the root (5.3)
abbrev pub given_public : KeptNodes → List ℕ
given_public kept =
    lms_public_key (tree_of kept.key).lms (tree_of kept.key).ots (tree_of kept.key).id
    (slice_index_or kept.upper 0 [])

-- the nodes are the tree's, each at its place
pub record AreNodes (kept : KeptNodes) : Type 0 where
  pub upper_are : HoldsRows kept.key (upper_rows (tree_of kept.key).lms.h) kept.upper
  pub lower_are : HoldsRows kept.key (subtree_rows (tree_of kept.key).lms.h kept.subtree) kept.lower

-- the leaf is one of the bottom subtree's
abbrev pub ServesLeaf : KeptNodes → ℕ → Type 0
ServesLeaf kept q = q / 2 ^ bottom_height (tree_of kept.key).lms.h ≡ kept.subtree

-- the first leaf that is served, and the last
abbrev pub first_served : KeptNodes → ℕ
first_served kept = kept.subtree * 2 ^ bottom_height (tree_of kept.key).lms.h

abbrev pub last_served : KeptNodes → ℕ
last_served kept = first_served kept + (2 ^ bottom_height (tree_of kept.key).lms.h - 1)

-- `moved` has the same upper nodes, and those of bottom subtree n, which are the tree's, as is the
-- node that was given for the root of that subtree
pub record MovesTo (kept : KeptNodes) (n : ℕ) (moved : KeptNodes) : Type 0 where
  pub key : moved.key ≡ kept.key
  pub subtree : moved.subtree ≡ n
  pub upper : moved.upper ≡ kept.upper
  pub root : slice_index_or kept.upper (2 ^ upper_height (tree_of kept.key).lms.h - 1 + n) []
      ≡ node (tree_of kept.key) (subtree_root (tree_of kept.key).lms.h n)
  pub lower : HoldsRows kept.key (subtree_rows (tree_of kept.key).lms.h n) moved.lower

-- the signature of a message by leaf q of a tree, but that any bytes may be in the place of its
-- path (5.4.1)
pub record IsSignatureAlong (tree : Tree) (q : ℕ)
    (randomizer message signature : List ℕ) : Type 0 where
  pub path : List ℕ
  pub path_length : length path ≡ hash_length * tree.lms.h
  pub parts : signature ≡ u32str q ++ ots_signature tree.ots tree.id tree.seed q randomizer message
      ++ u32str tree.lms.code ++ path
