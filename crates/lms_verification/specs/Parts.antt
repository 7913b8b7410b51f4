-- The parts of an LMS public key and of an LMS signature, as byte strings.
use Rattle.std.specs.Prelude.{ℕ, ◌≡◌, ◌^◌, ◌<◌, List, ◌++◌, length, All, Some}
use Rattle.std.specs.List.{concat}
use Rattle.lms_spec.specs.HashLength.{hash_length}
use Rattle.lms_spec.specs.Parameters.{OtsSet, LmsSet, ots_set, lms_set, ots_signature_length, lms_signature_length}
use Rattle.lms_spec.specs.Bytes.{u32str}
use Rattle.lms_spec.specs.Ots.{IsOtsSignature}
use Rattle.lms_spec.specs.Tree.{lms_public_key}

-- the parts of an LMS public key of known sets (5.3)
pub record IsLmsPublicKey (m : LmsSet) (t : OtsSet) (id root public_key : List ℕ) : Type 0 where
  pub lms_known : lms_set m.code ≡ Some m
  pub ots_known : ots_set t.code ≡ Some t
  pub id_length : length id ≡ 16
  pub root_length : length root ≡ hash_length
  pub parts : public_key ≡ lms_public_key m t id root

-- a public key under which signatures have n bytes (5.4)
pub record HasSignaturesOf (n : ℕ) (public_key : List ℕ) : Type 0 where
  pub lms : LmsSet
  pub ots : OtsSet
  pub id : List ℕ
  pub root : List ℕ
  pub parts : IsLmsPublicKey lms ots id root public_key
  pub length_is : n ≡ lms_signature_length lms ots

-- the parts of an LMS signature under a key of these sets (5.4)
pub record IsLmsSignature (m : LmsSet) (t : OtsSet) (q : ℕ) (ots_part : List ℕ)
    (path : List (List ℕ)) (signature : List ℕ) : Type 0 where
  pub q_in_tree : q < 2 ^ m.h
  pub ots_length : length ots_part ≡ ots_signature_length t
  pub path_count : length path ≡ m.h
  pub path_lengths : All (λ v. length v ≡ hash_length) path
  pub parts : signature ≡ u32str q ++ ots_part ++ u32str m.code ++ concat path

-- a public key of known sets, and a signature of its typecodes and lengths, the one-time part's
-- among them (5.3, 5.4 and 4.5)
pub record HasParts (public_key signature : List ℕ) : Type 0 where
  pub lms : LmsSet
  pub ots : OtsSet
  pub id : List ℕ
  pub root : List ℕ
  pub key_parts : IsLmsPublicKey lms ots id root public_key
  pub q : ℕ
  pub ots_part : List ℕ
  pub path : List (List ℕ)
  pub signature_parts : IsLmsSignature lms ots q ots_part path signature
  pub randomizer : List ℕ
  pub values : List (List ℕ)
  pub one_time_parts : IsOtsSignature ots randomizer values ots_part
