-- Byte strings read as numbers.
use Rattle.std.proofs.Common.{ℕ, zero, suc, ◌≡◌, ◌+◌, ◌-◌, ◌*◌, ◌/◌, ◌%◌, ◌^◌, ◌<◌, ◌≤◌, List, [], ◌∷◌, ◌++◌, length}
use Rattle.std.proofs.Common.{All, slice_index, sym, ◌∙◌, ap, arith, pow-add, pow-suc, mod-eq_of_lt, lit<}
use Rattle.std.proofs.Common.{mul-le-mul_right, length-append}
use Rattle.std.proofs.Math.Nat.{mul-add-div_right, mul-add-mod_self_right, one-le-pow}
use Rattle.std.proofs.lemmas.Nat.{div-mul-add}
use Rattle.std.proofs.lemmas.List.Elements.{All-head, All-tail}
use Rattle.lms_spec.specs.Bytes.{number_of, u16str, u32str}

abbrev pub IsByte : ℕ → Type 0
IsByte b = b < 256

number_of-lt : (bytes : List ℕ) → All IsByte bytes → number_of bytes < 256 ^ length bytes
unfolding number_of
number_of-lt [] small = lit< tt
number_of-lt (b ∷ bytes) small =
    let rest = number_of-lt bytes (All-tail IsByte b bytes small) in
    let first = All-head IsByte b bytes small in
    let most : b * 256 ^ length bytes ≤ 255 * 256 ^ length bytes =
    mul-le-mul_right (256 ^ length bytes) (omega arith) in
    omega (arith, pow-suc 256 (length bytes))

-- byte j of a byte string read as a number
pub byte-at : (bytes : List ℕ) (j : ℕ) → All IsByte bytes → j < length bytes
    → number_of bytes / 256 ^ (length bytes - 1 - j) % 256 ≡ slice_index bytes j
unfolding number_of
byte-at [] j small h = absurd (omega arith)
byte-at (b ∷ bytes) zero small h =
    let e : suc (length bytes) - 1 - 0 ≡ length bytes = omega arith in
    let rest = number_of-lt bytes (All-tail IsByte b bytes small) in
    ap (λ n. (b * 256 ^ length bytes + number_of bytes) / 256 ^ n % 256) e
    ∙ (ap (λ n. n % 256) (div-mul-add b (256 ^ length bytes) (number_of bytes) rest)
    ∙ mod-eq_of_lt (All-head IsByte b bytes small))
byte-at (b ∷ bytes) (suc j) small h =
    let n = length bytes in
    let m = n - 1 - j in
    let e : suc n - 1 - suc j ≡ m = omega arith in
    let parts : suc j + m ≡ n = omega arith in
    let power : 256 ^ n ≡ 256 ^ suc j * 256 ^ m = ap (λ k. 256 ^ k) (sym parts) ∙ pow-add 256 (suc j) m in
    let big : b * 256 ^ n ≡ (b * 256 ^ j * 256) * 256 ^ m =
    omega (arith, ap (λ x. b * x) power, ap (λ x. b * (x * 256 ^ m)) (pow-suc 256 j)) in
    ap (λ k. (b * 256 ^ n + number_of bytes) / 256 ^ k % 256) e
    ∙ (ap (λ x. (x + number_of bytes) / 256 ^ m % 256) big
    ∙ (ap (λ x. x % 256) (mul-add-div_right (one-le-pow m 256 (lit< tt)) (b * 256 ^ j * 256) (number_of bytes))
    ∙ (mul-add-mod_self_right (b * 256 ^ j) 256 (number_of bytes / 256 ^ m)
    ∙ byte-at bytes j (All-tail IsByte b bytes small) (omega arith))))

pub number_of-append : (xs ys : List ℕ) → number_of (xs ++ ys) ≡ number_of xs * 256 ^ length ys + number_of ys
unfolding number_of
number_of-append [] ys = omega arith
number_of-append (x ∷ xs) ys =
    let rest = number_of-append xs ys in
    let power : 256 ^ length (xs ++ ys) ≡ 256 ^ length xs * 256 ^ length ys =
    ap (λ n. 256 ^ n) (length-append xs ys) ∙ pow-add 256 (length xs) (length ys) in
    omega (arith, ap (λ n. x * n) power)

pub number_of-u16 : (n : ℕ) → n < 2 ^ 16 → number_of (u16str n) ≡ n
unfolding number_of
number_of-u16 n small = omega arith

pub number_of-u32 : (n : ℕ) → n < 2 ^ 32 → number_of (u32str n) ≡ n
unfolding number_of
number_of-u32 n small = omega arith
