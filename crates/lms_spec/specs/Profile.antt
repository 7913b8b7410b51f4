-- What the standard leaves to the implementer, as this project has it: how indices are numbered,
-- which trees are below the top, and under which randomizers their keys are signed; then a key's
-- public key and signatures, which are the standard's over these. Index g counts the one-time keys
-- of the bottom level, over all of its trees, from 0.
use Rattle.std.specs.Prelude.{ℕ, zero, suc, ◌+◌, ◌-◌, ◌/◌, ◌%◌, ◌^◌, List, ◌∷◌, ◌++◌, length, map, take, drop}
use Rattle.sha2.specs.Sha256.{sha256}
use Rattle.lms_spec.specs.Bytes.{below, u16str}
use Rattle.lms_spec.specs.Hashing.{hash_prefix}
use Rattle.lms_spec.specs.Tree.{Tree, lms_signature}
use Rattle.lms_spec.specs.Hss.{Level, HssKey, level, height_of, public_key_over, signed_public_key, signature_over}

-- the leaf of level k's tree that index g goes through
abbrev pub leaf_at : HssKey → ℕ → ℕ → ℕ
leaf_at key g k = g / 2 ^ height_of (drop (k + 1) key.levels) % 2 ^ (level key k).lms.h

-- the numbers, each in the place of a chain's, of what is derived at a leaf: the randomizer under
-- which the key of the tree below it is signed, and that tree's seed and identifier; no chain has
-- so high a number
abbrev pub for_randomizer : ℕ
for_randomizer = 0xfffd

abbrev pub for_child_seed : ℕ
for_child_seed = 0xfffe

abbrev pub for_child_id : ℕ
for_child_id = 0xffff

-- the number of what is derived at leaf 0 of the top tree for the check value of nodes that are
-- kept
abbrev pub for_nodes : ℕ
for_nodes = 0xfffc

-- a value derived at leaf q of a tree, hashed as the secret of a chain of this number would be
unfoldable pub derived : Tree → ℕ → ℕ → List ℕ
derived tree q number = sha256 (hash_prefix tree.id q ++ u16str number ++ 0xff ∷ tree.seed)

-- the tree below leaf q
abbrev pub child : Tree → ℕ → Level → Tree
child tree q l =
    record {
      lms = l.lms;
      ots = l.ots;
      id = take 16
          (derived tree q for_child_id);
      seed = derived tree q for_child_seed;
    }

-- the tree of level k that index g goes through
abbrev pub tree_at : HssKey → ℕ → ℕ → Tree
tree_at key g zero =
    record { lms = (level key 0).lms; ots = (level key 0).ots; id = key.id; seed = key.seed }
tree_at key g (suc k) = child (tree_at key g k) (leaf_at key g k) (level key (suc k))

-- the public key
unfoldable pub hss_public_key : HssKey → List ℕ
hss_public_key key = public_key_over (length key.levels) (tree_at key 0 0)

-- the signed public key of level k for index g: the next tree's public key after its signature,
-- under the randomizer derived at the leaf
unfoldable pub signed_key : HssKey → ℕ → ℕ → List ℕ
signed_key key g k =
    let tree = tree_at key g k in
    let q = leaf_at key g k in
    signed_public_key tree q (derived tree q for_randomizer) (tree_at key g (k + 1))

-- the signature of a message by index g
unfoldable pub hss_signature : HssKey → ℕ → List ℕ → List ℕ → List ℕ
hss_signature key g randomizer message =
    let bottom = length key.levels - 1 in
    signature_over (map (signed_key key g) (below bottom))
    (lms_signature (tree_at key g bottom) (leaf_at key g bottom) randomizer message)
