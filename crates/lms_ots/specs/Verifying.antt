-- What a verifier has taken of a message.
use Rattle.std.specs.Prelude.{ℕ, ◌≡◌, List, ◌++◌}
use Rattle.sha2.specs.Hashers.{Holds256}
use Rattle.lms_spec.specs.Parameters.{OtsSet}
use Rattle.lms_spec.specs.Bytes.{u16str}
use Rattle.lms_spec.specs.Hashing.{d_mesg, hash_prefix}
use Rattle.lms_spec.specs.Ots.{IsOtsSignature}
use Rattle.lms_params.specs.OtsType.{ots_set_of}
use Rattle.lms_ots.specs.declared.verification.Verifier.{Verifier}

-- the verifier of a signature by leaf q's key has taken the message so far (4.6)
pub record HasTaken (v : Verifier) (t : OtsSet) (id : List ℕ) (q : ℕ)
    (signature message : List ℕ) : Type 0 where
  pub set_is : ots_set_of v.signature.t ≡ t
  pub id_is : v.id.i ≡ id
  pub leaf_is : v.id.q ≡ q
  pub signature_parts : IsOtsSignature t v.signature.randomizer.now v.signature.values.now signature
  pub hashed : Holds256 v.hasher
      (hash_prefix id q ++ u16str d_mesg ++ v.signature.randomizer.now ++ message)
