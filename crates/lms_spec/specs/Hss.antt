-- HSS, the hierarchy of LMS trees (RFC 8554, section 6): levels, public keys, signatures and their
-- acceptance, over any trees. Level 0 is the top. Which trees, leaves and randomizers a key of this
-- project signs with says `Profile`.
use Rattle.std.specs.Prelude.{ℕ, zero, suc, ◌≡◌, ◌+◌, ◌-◌, ◌*◌, ◌^◌, ◌≤◌, List, ◌++◌, length, sum_by, slice_index_or}
use Rattle.std.specs.Prelude.{Some}
use Rattle.std.specs.List.{concat}
use Rattle.lms_spec.specs.Parameters.{OtsSet, LmsSet, ots_set, lms_set, lms_signature_length, lms_public_key_length}
use Rattle.lms_spec.specs.Bytes.{u32str}
use Rattle.lms_spec.specs.Tree.{Tree, public_key_of, lms_signature, LmsAccepts}

-- the most levels (6)
abbrev pub most_levels : ℕ
most_levels = 8

-- the sets of one level
pub record Level : Type 0 where
  pub lms : LmsSet
  pub ots : OtsSet

-- both sets are of the tables
abbrev pub HasKnownSets : Level → Type 0
HasKnownSets l = (lms_set l.lms.code ≡ Some l.lms) × (ots_set l.ots.code ≡ Some l.ots)

-- a private key: its levels from the top, and the identifier and seed of the top tree (6.1 and
-- appendix A)
pub record HssKey : Type 0 where
  pub levels : List Level
  pub id : List ℕ
  pub seed : List ℕ

-- what `level` gives past the last level
abbrev pub no_level : Level
no_level =
    record { lms = record { code = 0; h = 0 }; ots = record { code = 0; w = 0; p = 0; ls = 0 } }

-- level k, where there is one
abbrev pub level : HssKey → ℕ → Level
level key k = slice_index_or key.levels k no_level

-- the heights of these levels, added up
abbrev pub height_of : List Level → ℕ
height_of levels = sum_by (λ l. l.lms.h) levels

-- how many messages the key can sign (6)
abbrev pub capacity_of : HssKey → ℕ
capacity_of key = 2 ^ height_of key.levels

-- how many bytes a signature under these levels has (6.2)
abbrev pub hss_signature_length : List Level → ℕ
hss_signature_length levels =
    4 + sum_by (λ l.
    lms_signature_length l.lms l.ots) levels + lms_public_key_length * (length levels - 1)

-- the public key of so many levels below a top tree (6.1)
abbrev pub public_key_over : ℕ → Tree → List ℕ
public_key_over levels top = u32str levels ++ public_key_of top

-- the public key of the next level's tree as leaf q of a tree signs it: the signature, and that key
-- (6.2)
abbrev pub signed_public_key : Tree → ℕ → List ℕ → Tree → List ℕ
signed_public_key tree q randomizer next =
    lms_signature tree q randomizer (public_key_of next) ++ public_key_of next

-- a signature: how many public keys are signed, these from the top, each after its own signature,
-- and the message's signature by the bottom tree (6.2)
abbrev pub signature_over : List (List ℕ) → List ℕ → List ℕ
signature_over signed_keys last = u32str (length signed_keys) ++ concat signed_keys ++ last

-- the signatures are accepted for the message under an LMS public key, with this many signed keys
-- in them (6.3)
abbrev pub AcceptsThrough : ℕ → List ℕ → List ℕ → List ℕ → Type 0
AcceptsThrough zero public_key message signatures = LmsAccepts public_key message signatures
AcceptsThrough (suc count) public_key message signatures =
    (signature : List ℕ) × (next_key : List ℕ) × (rest : List ℕ)
    × (signatures ≡ signature ++ next_key ++ rest)
    × LmsAccepts public_key next_key signature
    × AcceptsThrough count next_key message rest

-- the signature is accepted for the message under the HSS public key (6.3)
pub record HssAccepts (public_key message signature : List ℕ) : Type 0 where
  pub levels : ℕ
  pub top_key : List ℕ
  pub signatures : List ℕ
  pub some_level : 1 ≤ levels
  pub eight_at_most : levels ≤ most_levels
  pub key_parts : public_key ≡ u32str levels ++ top_key
  pub signature_parts : signature ≡ u32str (levels - 1) ++ signatures
  pub accepted : AcceptsThrough (levels - 1) top_key message signatures
