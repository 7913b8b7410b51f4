-- What a verifier has taken of a message.
use Rattle.std.specs.Prelude.{ℕ, ◌≡◌, ◌+◌, ◌^◌, List}
use Rattle.lms_spec.specs.Parameters.{OtsSet, LmsSet}
use Rattle.lms_ots.specs.Verifying.{HasTaken as HasTakenOnce}
use Rattle.lms_verification.specs.Parts.{IsLmsPublicKey, IsLmsSignature}
use Rattle.lms_verification.specs.declared.verification.Verifier.{Verifier}

-- the verifier of a signature under a public key has taken the message so far (5.4.2)
pub record HasTaken (v : Verifier) (public_key signature message : List ℕ) : Type 0 where
  pub lms : LmsSet
  pub ots : OtsSet
  pub key_parts : IsLmsPublicKey lms ots v.i v.root public_key
  pub q : ℕ
  pub ots_part : List ℕ
  pub signature_parts : IsLmsSignature lms ots q ots_part v.path.now signature
  pub leaf_is : v.leaf ≡ 2 ^ lms.h + q
  pub taken : HasTakenOnce v.ots ots v.i q ots_part message
