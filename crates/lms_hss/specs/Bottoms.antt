-- The bottom level in a public key and a signature, and what the hash of a message has before it.
use Rattle.std.specs.Prelude.{ℕ, zero, suc, ◌≡◌, ◌-◌, ◌≤◌, List, ◌++◌}
use Rattle.lms_spec.specs.Bytes.{u32str}
use Rattle.lms_spec.specs.Tree.{LmsAccepts}
use Rattle.lms_spec.specs.Hss.{most_levels}
use Rattle.lms_verification.specs.Heads.{lms_head}
use Rattle.lms_verification.specs.Parts.{HasParts}
use Rattle.lms_hss.specs.SignedKeys.{IsFirstSignedKey}

-- the key and the signature below so many signed keys, each accepted by the key above it (6.2 and
-- 6.3)
abbrev pub Reaches : ℕ → List ℕ → List ℕ → List ℕ → List ℕ → Type 0
Reaches zero signer text key signature = (signer ≡ key) × (text ≡ signature)
Reaches (suc count) signer text key signature =
    (first : List ℕ) × (next : List ℕ) × (rest : List ℕ)
    × IsFirstSignedKey signer text first next rest
    × LmsAccepts signer next first
    × Reaches count next rest key signature

-- the bottom level's key, and its signature of the message, in an HSS public key and an HSS
-- signature (6.1 and 6.2)
pub record IsBottom (public_key signature bottom_key bottom_signature : List ℕ) : Type 0 where
  pub levels : ℕ
  pub top_key : List ℕ
  pub signatures : List ℕ
  pub one_at_least : 1 ≤ levels
  pub eight_at_most : levels ≤ most_levels
  pub key_parts : public_key ≡ u32str levels ++ top_key
  pub signature_parts : signature ≡ u32str (levels - 1) ++ signatures
  pub reached : Reaches (levels - 1) top_key signatures bottom_key bottom_signature
  pub has_parts : HasParts bottom_key bottom_signature

-- what the hash of a message has before it (4.5)
pub record IsMessageHead (public_key signature head : List ℕ) : Type 0 where
  pub bottom_key : List ℕ
  pub bottom_signature : List ℕ
  pub bottom : IsBottom public_key signature bottom_key bottom_signature
  pub head_is : head ≡ lms_head bottom_key bottom_signature
