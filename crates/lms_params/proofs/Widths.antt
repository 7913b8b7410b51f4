-- Digits under the widths of the table: each is some bits of one byte.
use Rattle.std.proofs.Common.{ℕ, ◌≡◌, ◌+◌, ◌-◌, ◌*◌, ◌/◌, ◌%◌, ◌^◌, ◌<◌, ◌≤◌, List, length, All, slice_index, refl, sym}
use Rattle.std.proofs.Common.{◌∙◌, ap, arith, pow_pos, lit<, lit≤, div-add-mod', ap₂}
use Rattle.std.proofs.lemmas.Nat.{div_below, mod_below, div-mul-add}
use Rattle.lms_spec.specs.Digits.{digit}
use Rattle.lms_spec.proofs.Numbers.{IsByte}
use Rattle.lms_spec.proofs.DigitValues.{digit-bits}
use Rattle.lms_params.specs.declared.ots_type.OtsType.{OtsType}
use Rattle.lms_params.specs.declared.ots_type.OtsType.TheVariants.{W1, W2, W4, W8}
use Rattle.lms_params.specs.OtsType.{ots_set_of}

-- the digits of a byte fill it
pub whole_byte : (t : OtsType) → (ots_set_of t).w * (8 / (ots_set_of t).w) ≡ 8
whole_byte W1 = refl
whole_byte W2 = refl
whole_byte W4 = refl
whole_byte W8 = refl

some_digit : (t : OtsType) → 0 < 8 / (ots_set_of t).w
some_digit W1 = lit< tt
some_digit W2 = lit< tt
some_digit W4 = lit< tt
some_digit W8 = lit< tt

some_bit : (t : OtsType) → 0 < (ots_set_of t).w
some_bit W1 = lit< tt
some_bit W2 = lit< tt
some_bit W4 = lit< tt
some_bit W8 = lit< tt

-- a digit by its first bit
pub digit-byte : (t : OtsType) (bytes : List ℕ) (i : ℕ) → All IsByte bytes → i < length bytes * (8 / (ots_set_of t).w)
    → digit bytes i (ots_set_of t).w
    ≡ slice_index bytes (i * (ots_set_of t).w / 8) / 2 ^ (8 - (ots_set_of t).w - i * (ots_set_of t).w % 8)
    % 2 ^ (ots_set_of t).w
digit-byte t bytes i small h =
    let w = (ots_set_of t).w in
    let u = 8 / w in
    let j = i / u in
    let r = i % u in
    let some = some_digit t in
    let whole = whole_byte t in
    let parts : j * u + r ≡ i = div-add-mod' i u in
    let low : r < u = mod_below i u some in
    let spare : r + (u - 1 - r) + 1 ≡ u = omega arith in
    let eight : r * w + (u - 1 - r) * w + w ≡ 8 = omega (arith, ap (λ x. x * w) spare, whole) in
    let wide : 0 < w = some_bit t in
    let bit : i * w ≡ j * 8 + r * w = omega (arith, ap (λ x. x * w) parts, ap (λ x. j * x) whole) in
    let inside : r * w < 8 = omega arith in
    let byte : j ≡ i * w / 8 = sym (ap (λ x. x / 8) bit ∙ div-mul-add j 8 (r * w) inside) in
    let rest : i * w % 8 ≡ r * w = omega (arith, bit, byte) in
    let shift : w * (u - 1 - r) ≡ 8 - w - i * w % 8 = omega (arith, eight, rest) in
    ap (λ i. digit bytes i w) (sym parts)
    ∙ (digit-bits bytes w u j r whole small (div_below i u (length bytes) some h) low
    ∙ ap₂ (λ j s. slice_index bytes j / 2 ^ s % 2 ^ w) byte shift)

pub digit-lt : (bytes : List ℕ) (i w : ℕ) → digit bytes i w < 2 ^ w
unfolding digit
digit-lt bytes i w = mod_below _ (2 ^ w) (pow_pos w)

-- the last value of a digit
pub last_value : (t : OtsType) → 255 % 2 ^ (ots_set_of t).w ≡ 2 ^ (ots_set_of t).w - 1
last_value W1 = refl
last_value W2 = refl
last_value W4 = refl
last_value W8 = refl

-- the digits of a hash
pub hash_digits : (t : OtsType) → 32 * (8 / (ots_set_of t).w) ≡ 256 / (ots_set_of t).w
hash_digits W1 = refl
hash_digits W2 = refl
hash_digits W4 = refl
hash_digits W8 = refl

pub chains_limited : (t : OtsType) → (ots_set_of t).p ≤ 265
chains_limited W1 = lit≤ tt
chains_limited W2 = lit≤ tt
chains_limited W4 = lit≤ tt
chains_limited W8 = lit≤ tt
