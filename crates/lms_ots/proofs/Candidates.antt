-- The candidate, from digits at the front of a table.
use Rattle.std.proofs.Common.{ℕ, ◌≡◌, ◌-◌, ◌^◌, ◌<◌, ◌≤◌, List, [], ◌++◌, map, get_or, slice_index, ◌∙◌, ap, arith}
use Rattle.std.proofs.lemmas.List.{get_or_append_left}
use Rattle.lms_spec.specs.Parameters.{OtsSet}
use Rattle.lms_spec.specs.Bytes.{below}
use Rattle.lms_spec.specs.Digits.{digits_of}
use Rattle.lms_spec.specs.Ots.{chain, last_digit, end_from, ends_hash, message_hash, message_digits, candidate_of}
use Rattle.lms_spec.specs.Ots.{IsOtsSignature, LeadsTo}
use Rattle.lms_spec.proofs.Below.{map-below-same}
use Rattle.lms_spec.proofs.DigitValues.{digits-fit}

pub digit-in-front : (t : OtsSet) (hash rest : List ℕ) (i : ℕ) → i < t.p
    → slice_index (digits_of t hash ++ rest) i ≡ slice_index (digits_of t hash) i
digit-in-front t hash rest i h = get_or_append_left (digits_of t hash) rest 0 i (omega (arith, (digits-fit t hash).0))

pub digit-in-chain : (t : OtsSet) (hash rest : List ℕ) (i : ℕ) → i < t.p
    → slice_index (digits_of t hash ++ rest) i ≤ last_digit t
digit-in-chain t hash rest i h =
    let fit = digits-fit t hash in
    let small : slice_index (digits_of t hash) i < 2 ^ t.w = fit.1 i 0 (omega (arith, fit.0)) in
    omega (arith, digit-in-front t hash rest i h)

pub candidate-from-front : (t : OtsSet) (id : List ℕ) (q : ℕ) (randomizer message : List ℕ)
    (values : List (List ℕ)) (rest : List ℕ)
    → ends_hash id q
    (map (end_from t id q (digits_of t (message_hash id q randomizer message) ++ rest) values) (below t.p))
    ≡ candidate_of t id q randomizer values message
unfolding candidate_of message_digits
candidate-from-front t id q randomizer message values rest =
    let hash = message_hash id q randomizer message in
    ap (ends_hash id q)
    (map-below-same [] _ _ t.p
    (λ i h. ap (λ a. chain id q i a (last_digit t - a) (get_or values i [])) (digit-in-front t hash rest i h)))

-- the hash of the ends that these digits lead to is where a signature leads
pub leads-from-hash : (t : OtsSet) (id : List ℕ) (q : ℕ) (randomizer message rest signature hash digits k : List ℕ)
    (values : List (List ℕ))
    → IsOtsSignature t randomizer values signature → hash ≡ message_hash id q randomizer message
    → digits ≡ digits_of t hash ++ rest
    → k ≡ ends_hash id q (map (end_from t id q digits values) (below t.p))
    → LeadsTo t id q signature message k
leads-from-hash t id q randomizer message rest signature hash digits k values parts eh ed ek =
    let digits_are : digits ≡ digits_of t (message_hash id q randomizer message) ++ rest
    = ed ∙ ap (λ hash. digits_of t hash ++ rest) eh in
    record {
      randomizer = randomizer;
      values = values;
      signature_parts = parts;
      candidate_is = ek
          ∙ (ap (λ digits. ends_hash id q (map (end_from t id q digits values) (below t.p))) digits_are
          ∙ candidate-from-front t id q randomizer message values rest);
    }
