-- LM-OTS, the one-time signature (RFC 8554, section 4). A one-time key is a set, a tree's
-- identifier `id`, a seed and a leaf's number `q`.
use Rattle.std.specs.Prelude.{ℕ, zero, suc, ◌≡◌, ◌+◌, ◌-◌, ◌^◌, List, [], ◌++◌, length, map, All, slice_index}
use Rattle.std.specs.List.{concat, slice_index_or}
use Rattle.sha2.specs.Sha256.{sha256}
use Rattle.lms_spec.specs.HashLength.{hash_length}
use Rattle.lms_spec.specs.Parameters.{OtsSet}
use Rattle.lms_spec.specs.Digits.{digits_of}
use Rattle.lms_spec.specs.Bytes.{below, u16str, u32str}
use Rattle.lms_spec.specs.Hashing.{d_pblc, d_mesg, hash_prefix, chain_secret, chain_step}

-- the last digit value of a chain (4.3)
abbrev pub last_digit : OtsSet → ℕ
last_digit t = 2 ^ t.w - 1

-- the value of chain i some steps after `value`, which is at `from` (4.3)
abbrev pub chain : List ℕ → ℕ → ℕ → ℕ → ℕ → List ℕ → List ℕ
chain id q i from zero value = value
chain id q i from (suc steps) value =
    chain_step id q i (from + steps) (chain id q i from steps value)

-- the hash over the ends of all chains (4.3)
unfoldable pub ends_hash : List ℕ → ℕ → List (List ℕ) → List ℕ
ends_hash id q ends = sha256 (hash_prefix id q ++ u16str d_pblc ++ concat ends)

-- the hash of a message under a randomizer (4.5)
unfoldable pub message_hash : List ℕ → ℕ → List ℕ → List ℕ → List ℕ
message_hash id q randomizer message =
    sha256 (hash_prefix id q ++ u16str d_mesg ++ randomizer ++ message)

-- K, the public hash of a one-time key (4.3)
unfoldable pub public_hash : OtsSet → List ℕ → List ℕ → ℕ → List ℕ
public_hash t id seed q =
    ends_hash id q (map (λ i. chain id q i 0 (last_digit t) (chain_secret id seed q i)) (below t.p))

-- the digits of a message's hash and checksum, which its signature signs (4.5)
unfoldable pub message_digits : OtsSet → List ℕ → ℕ → List ℕ → List ℕ → List ℕ
message_digits t id q randomizer message = digits_of t (message_hash id q randomizer message)

-- the one-time signature of a message (4.5)
unfoldable pub ots_signature : OtsSet → List ℕ → List ℕ → ℕ → List ℕ → List ℕ → List ℕ
ots_signature t id seed q randomizer message =
    u32str t.code ++ randomizer
    ++ concat
    (map (λ i.
    chain id q i 0 (slice_index (message_digits t id q randomizer message) i)
    (chain_secret id seed q i)) (below t.p))

-- the end of chain i that a signature's value with digit a leads to (4.6)
abbrev pub end_from : OtsSet → List ℕ → ℕ → List ℕ → List (List ℕ) → ℕ → List ℕ
end_from t id q digits values i =
    let a = slice_index digits i in chain id q i a (last_digit t - a) (slice_index_or values i [])

-- the candidate for the public hash that a signature and a message lead to (4.6)
unfoldable pub candidate_of : OtsSet → List ℕ → ℕ → List ℕ → List (List ℕ) → List ℕ → List ℕ
candidate_of t id q randomizer values message =
    let digits = message_digits t id q randomizer message in
    ends_hash id q (map (end_from t id q digits values) (below t.p))

-- the parts of a one-time signature (4.5)
pub record IsOtsSignature (t : OtsSet) (randomizer : List ℕ) (values : List (List ℕ))
    (signature : List ℕ) : Type 0 where
  pub randomizer_length : length randomizer ≡ hash_length
  pub values_count : length values ≡ t.p
  pub value_lengths : All (λ v. length v ≡ hash_length) values
  pub parts : signature ≡ u32str t.code ++ randomizer ++ concat values

-- a signature and a message lead to this candidate for the public hash (4.6)
pub record LeadsTo (t : OtsSet) (id : List ℕ) (q : ℕ)
    (signature message candidate : List ℕ) : Type 0 where
  pub randomizer : List ℕ
  pub values : List (List ℕ)
  pub signature_parts : IsOtsSignature t randomizer values signature
  pub candidate_is : candidate ≡ candidate_of t id q randomizer values message
