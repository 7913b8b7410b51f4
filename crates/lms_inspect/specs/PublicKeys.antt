-- What public keys say (RFC 8554, 5.3 and 6.1).
use Rattle.std.specs.Prelude.{ℕ, ◌≡◌, ◌≤◌, List, ◌++◌}
use Rattle.lms_spec.specs.Bytes.{u32str}
use Rattle.lms_spec.specs.Hss.{most_levels}
use Rattle.lms_params.specs.LmsType.{lms_set_of}
use Rattle.lms_params.specs.OtsType.{ots_set_of}
use Rattle.lms_verification.specs.Parts.{IsLmsPublicKey}
use Rattle.lms_inspect.specs.declared.public_key.KeyParts.{KeyParts}
use Rattle.lms_inspect.specs.declared.public_key.PublicParts.{PublicParts}

-- an LMS public key of these sets and this identifier
abbrev pub IsKey : KeyParts → List ℕ → Type 0
IsKey parts key =
    (root : List ℕ) × IsLmsPublicKey (lms_set_of parts.lms) (ots_set_of parts.ots) parts.id root key

-- an HSS public key of so many levels over such a key
pub record SaysPublic (parts : PublicParts) (text : List ℕ) : Type 0 where
  pub some_level : 1 ≤ parts.levels
  pub eight_at_most : parts.levels ≤ most_levels
  pub key : List ℕ
  pub text_is : text ≡ u32str parts.levels ++ key
  pub is_key : IsKey parts.top key
