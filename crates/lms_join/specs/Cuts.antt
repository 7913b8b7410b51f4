-- Keys and signatures that are cut where the typecodes say, whatever is accepted.
use Rattle.std.specs.Prelude.{ℕ, zero, suc, ◌≡◌, ◌+◌, ◌-◌, ◌≤◌, List, ◌++◌, length}
use Rattle.lms_spec.specs.Bytes.{u32str}
use Rattle.lms_spec.specs.Parameters.{lms_public_key_length}
use Rattle.lms_spec.specs.Hss.{most_levels}
use Rattle.lms_verification.specs.Parts.{HasSignaturesOf}
use Rattle.lms_hss.specs.SignedKeys.{IsFirstSignedKey}

-- so many signed keys and then one signature, each as long as the key above it says (6.2)
abbrev pub IsCut : ℕ → List ℕ → List ℕ → Type 0
IsCut zero signer signatures = HasSignaturesOf (length signatures) signer
IsCut (suc count) signer signatures =
    (first : List ℕ) × (next : List ℕ) × (rest : List ℕ)
    × IsFirstSignedKey signer signatures first next rest
    × IsCut count next rest

-- two public keys of together at most eight levels, an endorsement and a signature: each of the
-- last two begins with the count of signed keys that signatures under its public key have, the
-- signer's LMS public key has its length, and the endorsement is cut where its typecodes say
pub record AreCut (top_public endorsement signer_public signature : List ℕ) : Type 0 where
  pub top_levels : ℕ
  pub signer_levels : ℕ
  pub top_key : List ℕ
  pub top_signatures : List ℕ
  pub signer_key : List ℕ
  pub signer_signatures : List ℕ
  pub some_top : 1 ≤ top_levels
  pub some_signer : 1 ≤ signer_levels
  pub eight_at_most : top_levels + signer_levels ≤ most_levels
  pub top_parts : top_public ≡ u32str top_levels ++ top_key
  pub endorsement_parts : endorsement ≡ u32str (top_levels - 1) ++ top_signatures
  pub signer_parts : signer_public ≡ u32str signer_levels ++ signer_key
  pub signature_parts : signature ≡ u32str (signer_levels - 1) ++ signer_signatures
  pub key_length : length signer_key ≡ lms_public_key_length
  pub endorsement_cut : IsCut (top_levels - 1) top_key top_signatures
