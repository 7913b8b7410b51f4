-- LMS, the Merkle tree of one-time keys (RFC 8554, section 5). Node 1 is the root, nodes 2r and
-- 2r + 1 are the children of r, and leaf q is node 2^h + q.
use Rattle.std.specs.Prelude.{ℕ, zero, suc, ◌≡◌, ◌+◌, ◌-◌, ◌*◌, ◌/◌, ◌%◌, ◌^◌, ◌<◌, ◌==◌, nat_le, if◌then◌else◌, Bool}
use Rattle.std.specs.Prelude.{List, [], ◌∷◌, ◌++◌, length, map, All, Some}
use Rattle.std.specs.List.{concat}
use Rattle.sha2.specs.Sha256.{sha256}
use Rattle.lms_spec.specs.HashLength.{hash_length}
use Rattle.lms_spec.specs.Parameters.{OtsSet, LmsSet, ots_set, lms_set}
use Rattle.lms_spec.specs.Bytes.{below, u16str, u32str}
use Rattle.lms_spec.specs.Hashing.{d_leaf, d_intr, hash_prefix}
use Rattle.lms_spec.specs.Ots.{public_hash, ots_signature, LeadsTo}

-- a tree's private key: its two sets, its identifier and its seed
pub record Tree : Type 0 where
  pub lms : LmsSet
  pub ots : OtsSet
  pub id : List ℕ
  pub seed : List ℕ

-- the value of node r, a leaf, over its one-time public hash (5.3)
unfoldable pub leaf_hash : List ℕ → ℕ → List ℕ → List ℕ
leaf_hash id r ots_public = sha256 (hash_prefix id r ++ u16str d_leaf ++ ots_public)

-- the value of node r over its two children's (5.3)
unfoldable pub inner_hash : List ℕ → ℕ → List ℕ → List ℕ → List ℕ
inner_hash id r left right = sha256 (hash_prefix id r ++ u16str d_intr ++ left ++ right)

-- node r is a leaf, or is below one (5.3)
abbrev pub is_leaf : Tree → ℕ → Bool
is_leaf key r = nat_le (2 ^ key.lms.h) r

-- node r (5.3), where `depth` is at least the number of levels from that of r to that of the
-- leaves, both counted
abbrev pub node_within : Tree → ℕ → ℕ → List ℕ
node_within key zero r = []
node_within key (suc depth) r =
    if is_leaf key r
    then leaf_hash key.id r (public_hash key.ots key.id key.seed (r - 2 ^ key.lms.h))
    else inner_hash key.id r (node_within key depth (2 * r)) (node_within key depth (2 * r + 1))

-- T[r], the value of node r (5.3)
abbrev pub node : Tree → ℕ → List ℕ
node key r = node_within key (key.lms.h + 1) r

-- the other child of a node's parent (5.4)
abbrev pub sibling : ℕ → ℕ
sibling r = if r % 2 == 0 then r + 1 else r - 1

-- the siblings of the nodes from leaf q up to the root's child (5.4)
abbrev pub path_of : Tree → ℕ → List (List ℕ)
path_of key q =
    map (λ level. node key (sibling ((2 ^ key.lms.h + q) / 2 ^ level))) (below key.lms.h)

-- where a climb from node r with this value ends (5.4.2)
abbrev pub climb : List ℕ → ℕ → List ℕ → List (List ℕ) → List ℕ
climb id r value [] = value
climb id r value (other ∷ path) =
    climb id (r / 2)
    (if r % 2 == 0 then inner_hash id (r / 2) value other
    else inner_hash id (r / 2) other value) path

-- the public key over this root (5.3)
unfoldable pub lms_public_key : LmsSet → OtsSet → List ℕ → List ℕ → List ℕ
lms_public_key lms ots id root = u32str lms.code ++ u32str ots.code ++ id ++ root

-- the public key of a private key (5.3)
unfoldable pub public_key_of : Tree → List ℕ
public_key_of key = lms_public_key key.lms key.ots key.id (node key 1)

-- the signature of a message by leaf q (5.4.1)
unfoldable pub lms_signature : Tree → ℕ → List ℕ → List ℕ → List ℕ
lms_signature key q randomizer message =
    u32str q ++ ots_signature key.ots key.id key.seed q randomizer message ++ u32str key.lms.code
    ++ concat (path_of key q)

-- the signature is accepted for the message under the public key (5.4.2)
pub record LmsAccepts (public_key message signature : List ℕ) : Type 0 where
  pub lms : LmsSet
  pub ots : OtsSet
  pub id : List ℕ
  pub root : List ℕ
  pub id_length : length id ≡ 16
  pub root_length : length root ≡ hash_length
  pub lms_known : lms_set lms.code ≡ Some lms
  pub ots_known : ots_set ots.code ≡ Some ots
  pub key_parts : public_key ≡ lms_public_key lms ots id root
  pub q : ℕ
  pub ots_part : List ℕ
  pub path : List (List ℕ)
  pub q_in_tree : q < 2 ^ lms.h
  pub path_count : length path ≡ lms.h
  pub path_lengths : All (λ v. length v ≡ hash_length) path
  pub signature_parts : signature ≡ u32str q ++ ots_part ++ u32str lms.code ++ concat path
  pub candidate : List ℕ
  pub leads_to : LeadsTo ots id q ots_part message candidate
  pub climbs_to_root : climb id (2 ^ lms.h + q) (leaf_hash id (2 ^ lms.h + q) candidate) path ≡ root
