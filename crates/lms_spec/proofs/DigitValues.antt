-- The values of digits: each fits its width, and is some bits of one byte.
use Rattle.std.proofs.Common.{◌++◌, pow_pos, ℕ, zero, suc, ◌≡◌, ◌+◌, ◌-◌, ◌*◌, ◌/◌, ◌%◌, ◌^◌, ◌<◌, List, length, All}
use Rattle.std.proofs.Common.{slice_index, sym, ◌∙◌, ap, arith, pow-add, pow-suc, shr-shr, mul-zero, pos_of_ne-zero}
use Rattle.std.proofs.Common.{mul-div_cancel}
use Rattle.std.proofs.Math.Nat.{pow-zero}
use Rattle.std.proofs.Math.Pow.{mod-mod-pow}
use Rattle.std.proofs.lemmas.Nat.{field_of}
use Rattle.lms_spec.specs.Parameters.{OtsSet}
use Rattle.lms_spec.specs.Digits.{digit, checksum, digits_of}
use Rattle.std.proofs.lemmas.Nat.{mod_below}
use Rattle.lms_spec.specs.Bytes.{number_of, u16str}
use Rattle.lms_spec.proofs.Numbers.{IsByte, byte-at}
use Rattle.lms_spec.proofs.Below.{length-map-below, All-map-below}

pub digits-fit : (t : OtsSet) (hash : List ℕ) → (length (digits_of t hash) ≡ t.p)
    × All (λ d. d < 2 ^ t.w) (digits_of t hash)
unfolding digits_of digit
digits-fit t hash =
    let value : ℕ → ℕ = λ i. digit (hash ++ u16str (checksum t hash)) i t.w in
    (length-map-below value t.p, All-map-below (λ d. d < 2 ^ t.w) value t.p (λ i. mod_below _ (2 ^ t.w) (pow_pos t.w)))

pow-pow : (w n : ℕ) → (2 ^ w) ^ n ≡ 2 ^ (w * n)
pow-pow w zero = pow-zero (2 ^ w) ∙ ap (λ k. 2 ^ k) (sym (mul-zero w))
pow-pow w (suc n) =
    let e : w * n + w ≡ w * suc n = omega arith in
    pow-suc (2 ^ w) n ∙ (ap (λ x. x * 2 ^ w) (pow-pow w n) ∙ (sym (pow-add 2 (w * n) w) ∙ ap (λ k. 2 ^ k) e))

-- w bits of a number's last byte
bits-of-byte : (n w r s : ℕ) → (w * r + w) + w * s ≡ 8 → n % 256 / 2 ^ (w * s) % 2 ^ w ≡ n / 2 ^ (w * s) % 2 ^ w
bits-of-byte n w r s e =
    ap (λ k. n % 2 ^ k / 2 ^ (w * s) % 2 ^ w) (sym e)
    ∙ (ap (λ x. x % 2 ^ w) (field_of n (w * r + w) (w * s)) ∙ mod-mod-pow (n / 2 ^ (w * s)) (w * r) w)

not-eight : (u : ℕ) → 0 * u ≡ 8 → ⊥
not-eight u e = absurd (omega arith)

pub digit-bits : (bytes : List ℕ) (w u j r : ℕ) → w * u ≡ 8 → All IsByte bytes → j < length bytes → r < u
    → digit bytes (j * u + r) w ≡ slice_index bytes j / 2 ^ (w * (u - 1 - r)) % 2 ^ w
unfolding digit
digit-bits bytes w u j r whole small h hr =
    let n = length bytes in
    let m = n - 1 - j in
    let s = u - 1 - r in
    let wide : 0 < w = pos_of_ne-zero (λ z. not-eight u (rw z at whole)) in
    let bits : 8 * n ≡ (n * u) * w = omega (arith, ap (λ x. x * n) whole) in
    let count : 8 * n / w ≡ n * u = ap (λ x. x / w) bits ∙ mul-div_cancel (n * u) wide in
    let en : n ≡ m + 1 + j = omega arith in
    let eu : u ≡ s + 1 + r = omega arith in
    let from_end : n * u - 1 - (j * u + r) ≡ m * u + s = omega (arith, ap (λ x. x * u) en) in
    let low : w * (8 * n / w - 1 - (j * u + r)) ≡ 8 * m + w * s
    = ap (λ x. w * (x - 1 - (j * u + r))) count ∙ (ap (λ x. w * x) from_end ∙ omega (arith, ap (λ x. x * m) whole)) in
    let eight : (w * r + w) + w * s ≡ 8 = omega (arith, ap (λ x. w * x) eu, whole) in
    let number = number_of bytes in
    ap (λ x. number / x % 2 ^ w) (pow-pow w (8 * n / w - 1 - (j * u + r)) ∙ ap (λ k. 2 ^ k) low)
    ∙ (ap (λ x. x % 2 ^ w) (sym (shr-shr number (8 * m) (w * s)))
    ∙ (ap (λ x. number / x / 2 ^ (w * s) % 2 ^ w) (sym (pow-pow 8 m))
    ∙ (sym (bits-of-byte (number / 256 ^ m) w r s eight)
    ∙ ap (λ x. x / 2 ^ (w * s) % 2 ^ w) (byte-at bytes j small h))))
