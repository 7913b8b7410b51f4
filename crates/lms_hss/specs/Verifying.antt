-- What a verifier has taken of a message.
use Rattle.std.specs.Prelude.{◌↔◌, ℕ, List}
use Rattle.lms_spec.specs.Tree.{LmsAccepts}
use Rattle.lms_spec.specs.Hss.{HssAccepts}
use Rattle.lms_verification.specs.Verifying.{HasTaken as HasTakenByTree}
use Rattle.lms_hss.specs.Bottoms.{IsBottom}
use Rattle.lms_hss.specs.declared.verification.Verifier.{Verifier}

-- the verifier of a signature under a public key has taken the message so far, and the key of the
-- bottom level, with its signature, accepts what the public key accepts (6.3)
pub record HasTaken (v : Verifier) (public_key signature message : List ℕ) : Type 0 where
  pub bottom_key : List ℕ
  pub bottom_signature : List ℕ
  pub bottom : IsBottom public_key signature bottom_key bottom_signature
  pub same : (m : List ℕ)
      → (HssAccepts public_key m signature ↔ LmsAccepts bottom_key m bottom_signature)
  pub taken : HasTakenByTree v.bottom bottom_key bottom_signature message
