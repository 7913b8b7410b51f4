-- Chains as they are walked in lanes.
use Rattle.std.proofs.Common.{ℕ, zero, suc, ◌≡◌, ◌+◌, ◌-◌, ◌%◌, ◌<◌, ◌≤◌, ◌∙◌, List, [], ◌∷◌, ◌++◌, slice_index, refl}
use Rattle.std.proofs.Common.{ap₂, arith, lit≤}
use native.Mathlib.Numerals.{unary_clauses}
use Rattle.sha2.specs.Sha256.{sha256}
use Rattle.lms_lanes.specs.Chains.{walked}
use Rattle.lms_spec.specs.Bytes.{u16str}
use Rattle.lms_spec.specs.Hashing.{hash_prefix, chain_secret, chain_step}
use Rattle.lms_spec.specs.Ots.{chain, last_digit}
use Rattle.lms_params.specs.OtsType.{ots_set_of}
use Rattle.lms_params.specs.declared.ots_type.OtsType.{OtsType}
use Rattle.lms_params.specs.declared.ots_type.OtsType.TheVariants.{W1, W2, W4, W8}

-- from a digit on
pub walked-chain : (id : List ℕ) (q i from steps : ℕ) (value : List ℕ) → from + steps ≤ 256
    → walked (hash_prefix id q ++ u16str i) from steps value ≡ chain id q i from steps value
unfolding chain_step
walked-chain id q i from zero value most = refl
walked-chain id q i from (suc n) value most =
    let byte : (from + n) % 256 ≡ from + n = omega (arith, most) in
    ap₂ (λ byte x. sha256 ((hash_prefix id q ++ u16str i) ++ byte ∷ x)) byte
    (walked-chain id q i from n value (omega (arith, most)))

-- from the seed on, whose hash is the secret
pub walked-secret : (id seed : List ℕ) (q i digit : ℕ) → digit ≤ 255
    → walked (hash_prefix id q ++ u16str i) 255 (suc digit) seed ≡ chain id q i 0 digit (chain_secret id seed q i)
unfolding chain_step chain_secret
walked-secret id seed q i zero most = refl
walked-secret id seed q i (suc n) most =
    let byte : (255 + suc n) % 256 ≡ 0 + n = omega (arith, most) in
    ap₂ (λ byte x. sha256 ((hash_prefix id q ++ u16str i) ++ byte ∷ x)) byte
    (walked-secret id seed q i n (omega (arith, most)))

-- from where a chain is on, the byte being counted in 16 bits
pub walked-on : (head value : List ℕ) (first before more : ℕ)
    → walked head ((first + before) % 65536) more (walked head first before value)
    ≡ walked head first (before + more) value
walked-on head value first before zero = simp unary_clauses refl
walked-on head value first before (suc more) =
    let byte : ((first + before) % 65536 + more) % 256 ≡ (first + (before + more)) % 256 = omega arith in
    let here : walked head ((first + before) % 65536) (suc more) (walked head first before value)
    ≡ walked head first (suc (before + more)) value
    = ap₂ (λ byte x. sha256 (head ++ byte ∷ x)) byte (walked-on head value first before more) in
    simp unary_clauses here

-- eight numbers in a row
pub eight_in_row : (first k : ℕ) → k < 8
    → slice_index
    (first ∷ (first + 1) ∷ (first + 2) ∷ (first + 3) ∷ (first + 4) ∷ (first + 5) ∷ (first + 6) ∷ (first + 7) ∷ []) k
    ≡ first + k
eight_in_row first zero lt = omega arith
eight_in_row first (suc zero) lt = omega arith
eight_in_row first (suc (suc zero)) lt = omega arith
eight_in_row first (suc (suc (suc zero))) lt = omega arith
eight_in_row first (suc (suc (suc (suc zero)))) lt = omega arith
eight_in_row first (suc (suc (suc (suc (suc zero))))) lt = omega arith
eight_in_row first (suc (suc (suc (suc (suc (suc zero)))))) lt = omega arith
eight_in_row first (suc (suc (suc (suc (suc (suc (suc zero))))))) lt = omega arith
eight_in_row first (suc (suc (suc (suc (suc (suc (suc (suc k)))))))) lt = absurd (omega (arith, lt))

-- the same of a lane's arguments
pub lane-from_seed : (id seed : List ℕ) (q i digit number byte steps : ℕ) (start : List ℕ)
    → number ≡ i → byte ≡ 255 → steps ≡ digit + 1 → start ≡ seed → digit ≤ 255
    → walked (hash_prefix id q ++ u16str number) byte steps start ≡ chain id q i 0 digit (chain_secret id seed q i)
lane-from_seed id seed q i digit number byte steps start en eb es ev most =
    let hashes : steps ≡ suc digit = omega (arith, es) in
    (λ j. walked (hash_prefix id q ++ u16str (en j)) (eb j) (hashes j) (ev j)) ∙ walked-secret id seed q i digit most

pub lane-from_digit : (id : List ℕ) (q i from to byte steps : ℕ) (start value : List ℕ)
    → byte ≡ from → steps ≡ to - from → start ≡ value → from ≤ to → to ≤ 255
    → walked (hash_prefix id q ++ u16str i) byte steps start ≡ chain id q i from (to - from) value
lane-from_digit id q i from to byte steps start value eb es ev order most =
    (λ j. walked (hash_prefix id q ++ u16str i) (eb j) (es j) (ev j))
    ∙ walked-chain id q i from (to - from) value (omega (arith, order, most))

pub last_digit-byte : (t : OtsType) → last_digit (ots_set_of t) ≤ 255
last_digit-byte W1 = lit≤ tt
last_digit-byte W2 = lit≤ tt
last_digit-byte W4 = lit≤ tt
last_digit-byte W8 = lit≤ tt

pub eight_chains : (t : OtsType) → 8 ≤ (ots_set_of t).p
eight_chains W1 = lit≤ tt
eight_chains W2 = lit≤ tt
eight_chains W4 = lit≤ tt
eight_chains W8 = lit≤ tt
