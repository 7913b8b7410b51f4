-- What the parts of a signer's key say of its bytes.
use Rattle.std.proofs.Common.{ℕ, ◌≡◌, List, arith}
use Rattle.lms_join.specs.Joined.{after_count, count_of}
use Rattle.lms_join.specs.Keys.{IsHssPublicKey}
use Rattle.lms_join.proofs.Joins.{count-is, rest-is}

pub count_is : (levels : ℕ) (lms_key signer : List ℕ) → IsHssPublicKey levels lms_key signer → count_of signer ≡ levels
count_is levels lms_key signer is =
    let most = is.eight_at_most in count-is levels signer lms_key (omega arith) is.parts

pub key_is : (levels : ℕ) (lms_key signer : List ℕ) → IsHssPublicKey levels lms_key signer
    → after_count signer ≡ lms_key
key_is levels lms_key signer is = rest-is levels signer lms_key is.parts
