-- One-time signatures: what a signature leads to, and that it leads to one candidate.
use Rattle.std.proofs.Common.{ℕ, zero, suc, ◌≡◌, ◌+◌, ◌-◌, ◌^◌, ◌<◌, ◌≤◌, List, [], ◌++◌, map, length, slice_index}
use Rattle.std.proofs.Common.{slice_index_or, refl, sym, ◌∙◌, ap, ap₂, arith, zero-add, pow_pos}
use Rattle.std.specs.List.{concat}
use Rattle.std.proofs.lemmas.Nat.{mod_below}
use Rattle.std.proofs.lemmas.List.{append_cancel_left}
use Rattle.sha2.proofs.Facts256.{length-sha256}
use Rattle.lms_spec.specs.Parameters.{OtsSet}
use Rattle.lms_spec.specs.Digits.{digit, checksum, digits_of}
use Rattle.lms_spec.specs.Bytes.{below, u32str, u16str}
use Rattle.lms_spec.specs.Hashing.{chain_secret, chain_step}
use Rattle.lms_spec.specs.Ots.{chain, last_digit, ends_hash, public_hash, message_hash, message_digits, ots_signature}
use Rattle.lms_spec.specs.Ots.{end_from, candidate_of, LeadsTo}
use Rattle.lms_spec.proofs.Below.{length-map-below, get_or-map-below, map-below-same, All-map-below}
use Rattle.lms_spec.proofs.Pieces.{same-front, same-rest, concat-same}
use Rattle.lms_spec.proofs.Chains.{chain-chain}

pub length-chain : (id : List ℕ) (q i from steps : ℕ) (value : List ℕ) → length value ≡ 32
    → length (chain id q i from steps value) ≡ 32
unfolding chain_step
length-chain id q i from zero value long = long
length-chain id q i from (suc steps) value long = length-sha256 _

digit-le : (t : OtsSet) (hash : List ℕ) (i : ℕ) → i < t.p → slice_index (digits_of t hash) i ≤ last_digit t
unfolding digits_of digit
digit-le t hash i h =
    let text = hash ++ u16str (checksum t hash) in
    let at : slice_index (digits_of t hash) i ≡ digit text i t.w = get_or-map-below (λ i. digit text i t.w) t.p i 0 h in
    let small : digit text i t.w < 2 ^ t.w = mod_below _ (2 ^ t.w) (pow_pos t.w) in
    omega arith

abbrev pub signed_value : OtsSet → List ℕ → List ℕ → ℕ → List ℕ → List ℕ → ℕ → List ℕ
signed_value t id seed q randomizer message i =
    chain id q i 0 (slice_index (message_digits t id q randomizer message) i) (chain_secret id seed q i)

-- the end that a signed value leads to is the end of its chain
signed-end : (t : OtsSet) (id seed : List ℕ) (q : ℕ) (randomizer message : List ℕ) (i : ℕ) → i < t.p
    → chain id q i 0 (last_digit t) (chain_secret id seed q i)
    ≡ end_from t id q (message_digits t id q randomizer message)
    (map (signed_value t id seed q randomizer message) (below t.p)) i
unfolding message_digits
signed-end t id seed q randomizer message i h =
    let a = slice_index (message_digits t id q randomizer message) i in
    let values = map (signed_value t id seed q randomizer message) (below t.p) in
    let secret = chain_secret id seed q i in
    let most : a + (last_digit t - a) ≡ last_digit t =
    omega (arith, digit-le t (message_hash id q randomizer message) i h) in
    let at : slice_index_or values i [] ≡ chain id q i 0 a secret =
    get_or-map-below (signed_value t id seed q randomizer message) t.p i [] h in
    ap (λ n. chain id q i 0 n secret) (sym most)
    ∙ (sym (chain-chain id q i 0 a (last_digit t - a) secret)
    ∙ ap₂ (λ from value. chain id q i from (last_digit t - a) value) (zero-add a) (sym at))

pub signature-leads_to : (t : OtsSet) (id seed : List ℕ) (q : ℕ) (randomizer message : List ℕ) → length randomizer ≡ 32
    → LeadsTo t id q (ots_signature t id seed q randomizer message) message (public_hash t id seed q)
unfolding ots_signature public_hash candidate_of chain_secret
signature-leads_to t id seed q randomizer message long = record {
  randomizer = randomizer;
  values = map (signed_value t id seed q randomizer message) (below t.p);
  signature_parts = record {
    randomizer_length = long;
    values_count = length-map-below (signed_value t id seed q randomizer message) t.p;
    value_lengths = All-map-below (λ v. length v ≡ 32) (signed_value t id seed q randomizer message) t.p
        (λ i. length-chain id q i 0 _ _ (length-sha256 _));
    parts = refl;
  };
  candidate_is = ap (ends_hash id q) (map-below-same [] _ _ t.p (signed-end t id seed q randomizer message));
}

pub candidate-one : (t : OtsSet) (id : List ℕ) (q : ℕ) (signature message a b : List ℕ)
    → LeadsTo t id q signature message a → LeadsTo t id q signature message b → a ≡ b
candidate-one t id q signature message a b x y =
    let p = x.signature_parts in
    let r = y.signature_parts in
    let head = u32str t.code ++ x.randomizer in
    let head' = u32str t.code ++ y.randomizer in
    let e : head ++ concat x.values ≡ head' ++ concat y.values = sym p.parts ∙ r.parts in
    let lx : length head ≡ 36 = omega (arith, p.randomizer_length) in
    let ly : length head' ≡ 36 = omega (arith, r.randomizer_length) in
    let same_randomizer = append_cancel_left (u32str t.code) x.randomizer y.randomizer
    (same-front 36 head head' (concat x.values) (concat y.values) lx ly e) in
    let same_values = concat-same x.values y.values
    (p.values_count ∙ sym r.values_count) p.value_lengths r.value_lengths
    (same-rest 36 head head' (concat x.values) (concat y.values) lx ly e) in
    x.candidate_is
    ∙ (ap₂ (λ c values. candidate_of t id q c values message) same_randomizer same_values ∙ sym y.candidate_is)
