-- HSS public keys of known typecodes, and which two can be joined.
use Rattle.std.specs.Prelude.{ℕ, ◌≡◌, ◌+◌, ◌≤◌, List, ◌++◌, take, drop}
use Rattle.lms_spec.specs.Bytes.{u32str}
use Rattle.lms_spec.specs.Hss.{most_levels}
use Rattle.lms_verification.specs.Parts.{HasSignaturesOf}

-- the public key of so many levels over an LMS public key of known typecodes, under which
-- signatures have some length (6.1)
pub record IsHssPublicKey (levels : ℕ) (lms_key public_key : List ℕ) : Type 0 where
  pub some_level : 1 ≤ levels
  pub eight_at_most : levels ≤ most_levels
  pub parts : public_key ≡ u32str levels ++ lms_key
  pub signature_length : ℕ
  pub known : HasSignaturesOf signature_length lms_key

-- the identifier in an LMS public key, after its two typecodes (5.3)
abbrev pub id_of : List ℕ → List ℕ
id_of lms_key = take 16 (drop 8 lms_key)

-- two HSS public keys of known typecodes whose levels are together at most eight
pub record AreJoinable (top_public signer_public : List ℕ) : Type 0 where
  pub top_levels : ℕ
  pub signer_levels : ℕ
  pub top_key : List ℕ
  pub signer_key : List ℕ
  pub top : IsHssPublicKey top_levels top_key top_public
  pub signer : IsHssPublicKey signer_levels signer_key signer_public
  pub eight_at_most : top_levels + signer_levels ≤ most_levels
