-- The first signed key of a signature.
use Rattle.std.specs.Prelude.{ℕ, ◌≡◌, List, ◌++◌, length}
use Rattle.lms_spec.specs.Parameters.{lms_public_key_length}
use Rattle.lms_verification.specs.Parts.{HasSignaturesOf}

-- `text` begins with as many bytes as the signer's signatures have, and then as many as an LMS
-- public key has; `rest` is what follows (6.2)
pub record IsFirstSignedKey (signer text signature key rest : List ℕ) : Type 0 where
  pub signature_length : HasSignaturesOf (length signature) signer
  pub key_length : length key ≡ lms_public_key_length
  pub parts : text ≡ signature ++ key ++ rest
