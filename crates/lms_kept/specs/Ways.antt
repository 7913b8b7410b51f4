-- The trees on the way of an index, from the top down, with nodes that were given, and the bytes
-- that keep them.
use Rattle.std.specs.Prelude.{ℕ, zero, suc, ◌≡◌, ◌⊎◌, ◌+◌, ◌-◌, ◌*◌, ◌/◌, ◌^◌, ◌<◌, ◌≤◌, List, [], ◌++◌, length}
use Rattle.std.specs.Prelude.{slice_index_or}
use Rattle.std.specs.List.{flat_map}
use Rattle.sha2.specs.Sha256.{sha256}
use Rattle.lms_spec.specs.HashLength.{hash_length}
use Rattle.lms_spec.specs.Bytes.{u32str, u64str}
use Rattle.lms_spec.specs.Parameters.{lms_signature_length, lms_public_key_length}
use Rattle.lms_spec.specs.Hss.{HssKey, Level, capacity_of, level}
use Rattle.lms_spec.specs.Tree.{lms_signature, public_key_of}
use Rattle.lms_spec.specs.Profile.{tree_at, leaf_at, derived, for_nodes, for_randomizer, signed_key}
use Rattle.lms_tree.specs.declared.tree_key.TreeKey.{TreeKey}
use Rattle.lms_tree.specs.Bands.{bottom_height}
use Rattle.lms_tree.specs.Held.{nodes_in}
use Rattle.lms_tree.specs.Kept.{AreNodes, given_public, HasShape, IsSignatureAlong, ServesLeaf, subtree_rows}
use Rattle.lms_tree.specs.Kept.{upper_rows}
use Rattle.lms_tree.specs.TreeKey.{tree_of}
use Rattle.lms_hss.specs.Keys.{hss_key_of, tree_number}
use Rattle.lms_hss.specs.Levels.{IsAdmitted}
use Rattle.lms_hss.specs.declared.key.HssKey.{HssKey as KeyOfCode}
use Rattle.lms_kept.specs.declared.kept_level.KeptLevel.{KeptLevel}
use Rattle.lms_kept.specs.declared.planned_level.PlannedLevel.{PlannedLevel}

-- what contracts see of `KeptTrees`: a key, an index, and of each level from the top a tree with
-- what is signed of it
pub record Way : Type 0 where
  pub key : KeyOfCode
  pub at : ℕ
  pub levels : List KeptLevel

-- how many leaves a tree of a level has
abbrev pub leaves_of : Level → ℕ
leaves_of l = 2 ^ l.lms.h

-- how many bytes the signature of level k's public key by the level above and that key have (6.2);
-- 0 for the top level, which is not signed
abbrev pub signed_length : HssKey → ℕ → ℕ
signed_length key zero = 0
signed_length key (suc k) =
    lms_signature_length (level key k).lms (level key k).ots + lms_public_key_length

-- level k's tree is the one that index g goes through, and serves the leaf there; how much is held
-- follows from key and level
pub record IsOnWay (key : HssKey) (g k : ℕ) (level : KeptLevel) : Type 0 where
  pub tree : tree_of level.tree.key ≡ tree_at key g k
  pub served : ServesLeaf level.tree (leaf_at key g k)
  pub shape : HasShape level.tree
  pub signed : length level.signed.items ≡ signed_length key k

-- some levels from the top, on the way of an index below the capacity of a key whose levels the
-- signer takes
pub record IsWay (way : Way) : Type 0 where
  pub id_length : length way.key.i ≡ 16
  pub within : way.at < capacity_of (hss_key_of way.key)
  pub some : 1 ≤ length way.levels
  pub at_most : length way.levels ≤ length way.key.levels
  pub each : (k : ℕ) (other : KeptLevel) → k < length way.levels
      → IsOnWay (hss_key_of way.key) way.at k (slice_index_or way.levels k other)
  pub admitted : IsAdmitted way.key.levels

-- what a signature by index g has of level k's key, signed by the level above (6.2); nothing for
-- the top level
abbrev pub signed_text : HssKey → ℕ → ℕ → List ℕ
signed_text key g zero = []
signed_text key g (suc k) = signed_key key g k

-- a level's nodes are its tree's, and what is signed of it is what a signature by index g has there
pub record IsGenuine (key : HssKey) (g k : ℕ) (level : KeptLevel) : Type 0 where
  pub nodes : AreNodes level.tree
  pub signed : level.signed.items ≡ signed_text key g k

-- what was given for each level is genuine
abbrev pub AreGenuine : Way → Type 0
AreGenuine way = (k : ℕ) (other : KeptLevel) → k < length way.levels
    → IsGenuine (hss_key_of way.key) way.at k (slice_index_or way.levels k other)

-- the public key over what was given for the root of the top tree (6.1)
abbrev pub public_of : Way → KeptLevel → List ℕ
public_of way other =
    u32str (length way.key.levels) ++ given_public (slice_index_or way.levels 0 other).tree

-- the number of the bottom level
abbrev pub bottom_of : KeyOfCode → ℕ
bottom_of key = length key.levels - 1

-- the bottom level's nodes serve 2 to the power of this many indices in a row
abbrev pub served_height : KeyOfCode → ℕ
served_height key = bottom_height (level (hss_key_of key) (bottom_of key)).lms.h

-- all levels are there, and in the bottom level the index goes through the same bottom subtree as
-- the one that the trees are for
pub record Serves (way : Way) (g : ℕ) : Type 0 where
  pub all_levels : length way.levels ≡ length way.key.levels
  pub subtree : g / 2 ^ served_height way.key ≡ way.at / 2 ^ served_height way.key

-- what is signed of all levels, from the top
abbrev pub signed_keys : List KeptLevel → List ℕ
signed_keys levels = flat_map (λ (level : KeptLevel). level.signed.items) levels

-- the signature has the signed keys as they were given, and then the LMS signature of a message by
-- the one-time key of an index, but that any bytes may be in the place of its path (6.2)
pub record EndsAlong (way : Way) (g : ℕ) (randomizer message signature : List ℕ) : Type 0 where
  pub last : List ℕ
  pub parts : signature ≡ u32str (bottom_of way.key) ++ signed_keys way.levels ++ last
  pub along : IsSignatureAlong (tree_at (hss_key_of way.key) g (bottom_of way.key))
      (leaf_at (hss_key_of way.key) g (bottom_of way.key)) randomizer message last

-- what is signed of level k + 1 is the public key of its own tree, which no bytes gave, under the
-- randomizer of the leaf above: whatever was given, that one-time key signs nothing else
pub record SignsOwnKey (key : HssKey) (g k : ℕ) (level : KeptLevel) : Type 0 where
  pub signature : List ℕ
  pub along : IsSignatureAlong (tree_at key g k) (leaf_at key g k)
      (derived (tree_at key g k) (leaf_at key g k) for_randomizer)
      (public_key_of (tree_at key g (k + 1))) signature
  pub signed : level.signed.items ≡ signature ++ public_key_of (tree_at key g (k + 1))

-- from a level on, each has its own key signed
abbrev pub SignOwnKeys : HssKey → ℕ → ℕ → List KeptLevel → Type 0
SignOwnKeys key g from levels =
    (k : ℕ) (other : KeptLevel) → from ≤ k + 1 → k + 1 < length levels
    → SignsOwnKey key g k (slice_index_or levels (k + 1) other)

-- the tree of level k is one that was given, and what is signed of it was given with it
pub record StaysSigned (given way : Way) (k : ℕ) : Type 0 where
  pub there : k < length given.levels
  pub tree : tree_number (hss_key_of way.key) way.at k ≡ tree_number (hss_key_of way.key) given.at k
  pub signed : (other : KeptLevel)
      → (slice_index_or way.levels k other).signed.items
      ≡ (slice_index_or given.levels k other).signed.items

-- what is signed of a level was given with its tree, or is its own key
abbrev pub SignsNoOther : Way → Way → Type 0
SignsNoOther given way = (k : ℕ) (other : KeptLevel) → k < length way.levels
    → StaysSigned given way k
    ⊎ ((1 ≤ k)
    × SignsOwnKey (hss_key_of way.key) way.at (k - 1) (slice_index_or way.levels k other))

-- the tree of level k that an index goes through is planned, to serve the leaf there, with memory for
-- what is signed of it
pub record IsPlanned (key : HssKey) (g k : ℕ) (planned : PlannedLevel) : Type 0 where
  pub tree : tree_of planned.tree.key ≡ tree_at key g k
  pub first : planned.tree.first ≡ leaf_at key g k
  pub last : planned.tree.last ≡ leaf_at key g k
  pub signed : length planned.signed.items ≡ signed_length key k

-- all levels from level `from` on are planned, the lowest level first in the list
pub record ArePlanned (key : HssKey) (g from : ℕ) (plans : List PlannedLevel) : Type 0 where
  pub count : from + length plans ≡ length key.levels
  pub each : (k : ℕ) (other : PlannedLevel) → from ≤ k → k < length key.levels
      → IsPlanned key g k (slice_index_or plans (length key.levels - 1 - k) other)

-- a tree that was computed and serves a leaf, whose public key leaf q of the tree above signed.
-- That signature is the standard's but for its path, which is right where the nodes of the tree
-- above are
pub record IsKeptChild (parent : KeptLevel) (q : ℕ) (own : TreeKey) (leaf : ℕ)
    (level : KeptLevel) : Type 0 where
  pub key : level.tree.key ≡ own
  pub served : ServesLeaf level.tree leaf
  pub shape : HasShape level.tree
  pub nodes : AreNodes level.tree
  pub signature : List ℕ
  pub signed : level.signed.items ≡ signature ++ public_key_of (tree_of own)
  pub along : IsSignatureAlong (tree_of parent.tree.key) q
      (derived (tree_of parent.tree.key) q for_randomizer) (public_key_of (tree_of own)) signature
  pub right : AreNodes parent.tree
      → signature
      ≡ lms_signature (tree_of parent.tree.key) q
      (derived (tree_of parent.tree.key) q for_randomizer) (public_key_of (tree_of own))

-- the same tree, with the same signed of it, moved to serve this leaf; its nodes are right where
-- they were before
pub record IsMoved (level : KeptLevel) (leaf : ℕ) (moved : KeptLevel) : Type 0 where
  pub key : moved.tree.key ≡ level.tree.key
  pub served : ServesLeaf moved.tree leaf
  pub shape : HasShape moved.tree
  pub nodes : AreNodes level.tree → AreNodes moved.tree
  pub signed : moved.signed ≡ level.signed

-- the bytes of a level: what is signed of it, and its nodes
abbrev pub level_text : KeptLevel → List ℕ
level_text level =
    level.signed.items ++ flat_map (λ node. node) level.tree.upper
    ++ flat_map (λ node. node) level.tree.lower

-- how many bytes are kept of level k
abbrev pub level_length : HssKey → ℕ → ℕ
level_length key k =
    signed_length key k + hash_length *
    (nodes_in (upper_rows (level key k).lms.h) + nodes_in (subtree_rows (level key k).lms.h 0))

-- the first bytes of all kept nodes: a word, the version, and the index
abbrev pub nodes_word : ℕ
nodes_word = 0x4853534e

abbrev pub nodes_version : ℕ
nodes_version = 1

abbrev pub nodes_header : ℕ → List ℕ
nodes_header at = u32str nodes_word ++ u32str nodes_version ++ u64str at

-- the typecodes of all levels, as in a state image
abbrev pub sets_text : List Level → List ℕ
sets_text levels =
    u32str (length levels)
    ++ flat_map (λ (l : Level). u32str l.lms.code ++ u32str l.ots.code) levels

-- the value that shows whose nodes these are, and that they are whole
abbrev pub check_of : HssKey → List ℕ → List ℕ
check_of key body =
    sha256 (derived (tree_at key 0 0) 0 for_nodes ++ sha256 (sets_text key.levels ++ body))

-- the bytes that the check value is of: the header and all levels
abbrev pub body_text : Way → List ℕ
body_text way = nodes_header way.at ++ flat_map level_text way.levels

-- the bytes of kept nodes
abbrev pub nodes_text : Way → List ℕ
nodes_text way = body_text way ++ check_of (hss_key_of way.key) (body_text way)

-- no kept nodes have more bytes
abbrev pub most_text_length : ℕ
most_text_length = 0x600000
