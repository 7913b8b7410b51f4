-- Laws over the definitions, from the bottom up: numbers and tables, digits, one-time signatures,
-- trees, levels.
use Rattle.std.specs.Prelude.{ℕ, suc, ◌≡◌, ◌+◌, ◌-◌, ◌*◌, ◌/◌, ◌%◌, ◌^◌, ◌<◌, ◌≤◌, List, ◌++◌, length, All, Some}
use Rattle.std.specs.Prelude.{slice_index, take, drop}
use Rattle.std.specs.List.{concat}
use Rattle.lms_spec.specs.Bytes.{number_of, u16str, u32str}
use Rattle.lms_spec.specs.HashLength.{hash_length}
use Rattle.lms_spec.specs.Parameters.{OtsSet, LmsSet, ots_set, lms_set, ots_signature_length, lms_signature_length}
use Rattle.lms_spec.specs.Parameters.{lms_public_key_length}
use Rattle.lms_spec.specs.Digits.{digit, checksum, digits_of}
use Rattle.lms_spec.specs.Ots.{chain, public_hash, ots_signature, LeadsTo}
use Rattle.lms_spec.specs.Tree.{Tree, leaf_hash, inner_hash, node, path_of, climb, lms_public_key, public_key_of}
use Rattle.lms_spec.specs.Tree.{lms_signature, LmsAccepts}
use Rattle.lms_spec.specs.Hss.{most_levels, HasKnownSets, HssKey, hss_signature_length, capacity_of, AcceptsThrough}
use Rattle.lms_spec.specs.Hss.{HssAccepts}
use Rattle.lms_spec.specs.Profile.{leaf_at, signed_key, hss_public_key, hss_signature}

-- the two bytes of a number below 2^16, and the four of one below 2^32, read as one number, are
-- that number
abbrev pub NumbersReadBack : Type 0
NumbersReadBack =
    ((n : ℕ) → n < 2 ^ 16 → number_of (u16str n) ≡ n)
    × ((n : ℕ) → n < 2 ^ 32 → number_of (u32str n) ≡ n)

-- what the width of an LM-OTS set says of its other columns, with v digits for the checksum
-- (appendix B): v is the least number of digits that holds the largest sum, and the sum is at the
-- top of 16 bits
pub record FollowsFromWidth (t : OtsSet) : Type 0 where
  pub v : ℕ
  pub chains : 256 / t.w + v ≡ t.p
  pub holds : 256 / t.w * (2 ^ t.w - 1) < 2 ^ (t.w * v)
  pub least : 2 ^ (t.w * (v - 1)) ≤ 256 / t.w * (2 ^ t.w - 1)
  pub shift : t.w * v + t.ls ≡ 16

-- the columns of table 1 belong together
abbrev pub ColumnsFollow : Type 0
ColumnsFollow = (t : OtsSet) → ots_set t.code ≡ Some t → FollowsFromWidth t

-- a checksum fits its two bytes
abbrev pub ChecksumFits : Type 0
ChecksumFits = (t : OtsSet) (hash : List ℕ) → ots_set t.code ≡ Some t → checksum t hash < 2 ^ 16

-- the digits are p in number, each of w bits
abbrev pub DigitsFit : Type 0
DigitsFit =
    (t : OtsSet) (hash : List ℕ) → (length (digits_of t hash) ≡ t.p)
    × All (λ d. d < 2 ^ t.w) (digits_of t hash)

-- a digit is some bits of one byte: u digits to a byte, the highest first
abbrev pub DigitBits : Type 0
DigitBits =
    (bytes : List ℕ) (w u j r : ℕ) → w * u ≡ 8 → All (λ b. b < 256) bytes → j < length bytes → r < u
    → digit bytes (j * u + r) w ≡ slice_index bytes j / 2 ^ (w * (u - 1 - r)) % 2 ^ w

-- what the checksum is for: where each digit of one hash, its checksum's too, is at most another's,
-- the two hashes have the same digits
abbrev pub ChecksumGuards : Type 0
ChecksumGuards =
    (t : OtsSet) (hash hash' : List ℕ) → ots_set t.code ≡ Some t → length hash ≡ hash_length
    → length hash' ≡ hash_length
    → ((i : ℕ) → i < t.p → slice_index (digits_of t hash) i ≤ slice_index (digits_of t hash') i)
    → (i : ℕ) → i < 256 / t.w → digit hash i t.w ≡ digit hash' i t.w

-- a chain goes on where another ended
abbrev pub ChainsCompose : Type 0
ChainsCompose =
    (id : List ℕ) (q i from m n : ℕ) (value : List ℕ)
    → chain id q i (from + m) n (chain id q i from m value) ≡ chain id q i from (m + n) value

-- a one-time signature under a randomizer of 32 bytes is as long as its set says
abbrev pub OtsSignatureLength : Type 0
OtsSignatureLength =
    (t : OtsSet) (id seed : List ℕ) (q : ℕ) (randomizer message : List ℕ)
    → length randomizer ≡ hash_length
    → length (ots_signature t id seed q randomizer message) ≡ ots_signature_length t

-- a one-time signature leads to the public hash of its key
abbrev pub CandidateIsPublicHash : Type 0
CandidateIsPublicHash =
    (t : OtsSet) (id seed : List ℕ) (q : ℕ) (randomizer message : List ℕ)
    → length randomizer ≡ hash_length
    → LeadsTo t id q (ots_signature t id seed q randomizer message) message
    (public_hash t id seed q)

-- a one-time signature and a message lead to one candidate at most
abbrev pub OneCandidate : Type 0
OneCandidate =
    (t : OtsSet) (id : List ℕ) (q : ℕ) (signature message a b : List ℕ)
    → LeadsTo t id q signature message a → LeadsTo t id q signature message b → a ≡ b

-- a node from 2^h on is a leaf's hash
abbrev pub LeafNodes : Type 0
LeafNodes =
    (key : Tree) (r : ℕ) → 2 ^ key.lms.h ≤ r
    → node key r ≡ leaf_hash key.id r (public_hash key.ots key.id key.seed (r - 2 ^ key.lms.h))

-- a node below 2^h is its two children's hash
abbrev pub InnerNodes : Type 0
InnerNodes =
    (key : Tree) (r : ℕ) → 1 ≤ r → r < 2 ^ key.lms.h
    → node key r ≡ inner_hash key.id r (node key (2 * r)) (node key (2 * r + 1))

-- a leaf's path leads from it to the root
abbrev pub ClimbReachesRoot : Type 0
ClimbReachesRoot =
    (key : Tree) (q : ℕ) → q < 2 ^ key.lms.h
    → climb key.id (2 ^ key.lms.h + q) (node key (2 ^ key.lms.h + q)) (path_of key q) ≡ node key 1

-- a tree's public key has 56 bytes, where its identifier has 16
abbrev pub LmsPublicKeyLength : Type 0
LmsPublicKeyLength =
    (key : Tree) → length key.id ≡ 16 → length (public_key_of key) ≡ lms_public_key_length

-- a leaf's signature under a randomizer of 32 bytes is as long as its tree's two sets say
abbrev pub LmsSignatureLength : Type 0
LmsSignatureLength =
    (key : Tree) (q : ℕ) (randomizer message : List ℕ) → length randomizer ≡ hash_length
    → length (lms_signature key q randomizer message) ≡ lms_signature_length key.lms key.ots

-- a leaf's signature is accepted under its tree's public key
abbrev pub LmsSignatureAccepted : Type 0
LmsSignatureAccepted =
    (key : Tree) (q : ℕ) (randomizer message : List ℕ)
    → lms_set key.lms.code ≡ Some key.lms → ots_set key.ots.code ≡ Some key.ots → length key.id ≡ 16
    → q < 2 ^ key.lms.h → length randomizer ≡ hash_length
    → LmsAccepts (public_key_of key) message (lms_signature key q randomizer message)

-- where a signature is accepted, its public key has 56 bytes, and it is as long as the key's two
-- sets say
abbrev pub AcceptedLengths : Type 0
AcceptedLengths =
    (public_key message signature : List ℕ) (a : LmsAccepts public_key message signature)
    → (length public_key ≡ lms_public_key_length)
    × (length signature ≡ lms_signature_length a.lms a.ots)

-- one parse of a key and a signature decides: if it is accepted at all, then this parse climbs to
-- the root
abbrev pub AcceptedByParts : Type 0
AcceptedByParts =
    (m : LmsSet) (t : OtsSet) (id root : List ℕ) (q : ℕ) (ots_part : List ℕ) (path : List (List ℕ))
    (message candidate : List ℕ)
    → lms_set m.code ≡ Some m → ots_set t.code ≡ Some t → length id ≡ 16 → q < 2 ^ m.h
    → length path ≡ m.h → All (λ v. length v ≡ hash_length) path
    → LeadsTo t id q ots_part message candidate
    → LmsAccepts (lms_public_key m t id root) message
    (u32str q ++ ots_part ++ u32str m.code ++ concat path)
    → climb id (2 ^ m.h + q) (leaf_hash id (2 ^ m.h + q) candidate) path ≡ root

-- a hierarchy's public key has 60 bytes, where its identifier has 16
abbrev pub HssPublicKeyLength : Type 0
HssPublicKeyLength =
    (key : HssKey) → length key.id ≡ 16 → length (hss_public_key key) ≡ 4 + lms_public_key_length

-- a signature under a randomizer of 32 bytes, by a hierarchy of at least one level whose identifier
-- has 16 bytes, is as long as its levels say
abbrev pub HssSignatureLength : Type 0
HssSignatureLength =
    (key : HssKey) (g : ℕ) (randomizer message : List ℕ) → 1 ≤ length key.levels
    → length key.id ≡ 16 → length randomizer ≡ hash_length
    → length (hss_signature key g randomizer message) ≡ hss_signature_length key.levels

-- a signature by any index is accepted under the key's public key
abbrev pub HssSignatureAccepted : Type 0
HssSignatureAccepted =
    (key : HssKey) (g : ℕ) (randomizer message : List ℕ)
    → 1 ≤ length key.levels → length key.levels ≤ most_levels → All HasKnownSets key.levels
    → length key.id ≡ 16 → length randomizer ≡ hash_length
    → HssAccepts (hss_public_key key) message (hss_signature key g randomizer message)

-- where signatures are accepted through signed keys, the first signature and the key that it signs
-- are where the sets of the key above put them, and what follows is accepted under that signed key
abbrev pub ThroughParts : Type 0
ThroughParts =
    (count : ℕ) (m : LmsSet) (t : OtsSet) (id root message signatures : List ℕ)
    → lms_set m.code ≡ Some m → ots_set t.code ≡ Some t → length id ≡ 16
    → AcceptsThrough (suc count) (lms_public_key m t id root) message signatures
    → LmsAccepts (lms_public_key m t id root)
    (take lms_public_key_length (drop (lms_signature_length m t) signatures))
    (take (lms_signature_length m t) signatures)
    × AcceptsThrough count
    (take lms_public_key_length (drop (lms_signature_length m t) signatures)) message
    (drop (lms_signature_length m t + lms_public_key_length) signatures)

-- the public key that a level signs, and its signature, depend only on the leaves that the index
-- goes through down to that level
abbrev pub SameSignedKey : Type 0
SameSignedKey =
    (key : HssKey) (g g' k : ℕ) → ((j : ℕ) → j ≤ k → leaf_at key g j ≡ leaf_at key g' j)
    → signed_key key g k ≡ signed_key key g' k

-- no two indices below a key's capacity go through the same leaves on all levels
abbrev pub DifferentPlaces : Type 0
DifferentPlaces =
    (key : HssKey) (g g' : ℕ) → g < capacity_of key → g' < capacity_of key
    → ((j : ℕ) → j < length key.levels → leaf_at key g j ≡ leaf_at key g' j) → g ≡ g'
