-- A key and a signature have one set of parts.
use Rattle.std.proofs.Common.{ℕ, ◌≡◌, List, sym, ◌∙◌}
use Rattle.lms_spec.specs.Parameters.{OtsSet, LmsSet, ots_signature_length}
use Rattle.lms_spec.specs.Ots.{IsOtsSignature}
use Rattle.lms_spec.proofs.Parts.{key-parts-same, signature-parts-same}
use Rattle.lms_spec.proofs.Sets.{small-leaf}
use Rattle.lms_verification.specs.Parts.{IsLmsPublicKey, IsLmsSignature, HasParts}
use Rattle.lms_verification.specs.Verifying.{HasTaken}
use Rattle.lms_verification.specs.declared.verification.Verifier.{Verifier}

-- a signature that has parts has them under the sets that the key is cut to
pub parts-under : (m : LmsSet) (t : OtsSet) (id root public_key signature : List ℕ)
    → IsLmsPublicKey m t id root public_key
    → (has : HasParts public_key signature)
    → IsLmsSignature m t has.q has.ots_part has.path signature × IsOtsSignature t has.randomizer has.values has.ots_part
parts-under m t id root public_key signature key has =
    let of_has = has.key_parts in
    let same = key-parts-same has.lms m has.ots t has.id id has.root root of_has.lms_known key.lms_known
    of_has.ots_known key.ots_known of_has.id_length key.id_length
    (sym of_has.parts ∙ key.parts) in
    let lms : has.lms ≡ m = same.0 in
    let ots : has.ots ≡ t = same.1 in
    (rw (lms, ots) at has.signature_parts, rw ots at has.one_time_parts)

-- so has the one-time part that the signature is cut to
pub one-time-parts-under : (m : LmsSet) (t : OtsSet) (id root public_key : List ℕ) (q : ℕ) (ots_part : List ℕ)
    (path : List (List ℕ)) (signature : List ℕ)
    → IsLmsPublicKey m t id root public_key → IsLmsSignature m t q ots_part path signature
    → (has : HasParts public_key signature)
    → IsOtsSignature t has.randomizer has.values ots_part
one-time-parts-under m t id root public_key q ots_part path signature key is has =
    let found = parts-under m t id root public_key signature key has in
    let of_has = found.0 in
    let same = signature-parts-same has.q q m.code m.code (ots_signature_length t) has.ots_part ots_part has.path path
    (small-leaf m has.q key.lms_known of_has.q_in_tree) (small-leaf m q key.lms_known is.q_in_tree)
    of_has.ots_length is.ots_length
    (of_has.path_count ∙ sym is.path_count) of_has.path_lengths is.path_lengths (sym of_has.parts ∙ is.parts) in
    let part : has.ots_part ≡ ots_part = same.1 in
    rw part at found.1

-- a key and a signature that a verifier has begun with have parts
pub parts-taken : (v : Verifier) (public_key signature message : List ℕ) → HasTaken v public_key signature message
    → HasParts public_key signature
parts-taken v public_key signature message taken = record {
  lms = taken.lms;
  ots = taken.ots;
  id = v.i;
  root = v.root;
  key_parts = taken.key_parts;
  q = taken.q;
  ots_part = taken.ots_part;
  path = v.path.now;
  signature_parts = taken.signature_parts;
  randomizer = v.ots.signature.randomizer.now;
  values = v.ots.signature.values.now;
  one_time_parts = taken.taken.signature_parts;
}
