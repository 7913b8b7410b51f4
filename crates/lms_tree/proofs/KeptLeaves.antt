-- The leaves of a bottom subtree, those that a `KeptTree` serves.
use Rattle.std.proofs.Common.{ℕ, ◌≡◌, ◌+◌, ◌-◌, ◌*◌, ◌/◌, ◌^◌, ◌<◌, ◌≤◌, ap, arith, pow_pos, mul-le-mul_right}
use Rattle.std.proofs.lemmas.Nat.{pow-add, shl-shr}
use Rattle.std.proofs.Math.Nat.{le-div_iff_mul-le, div-lt_iff_lt-mul, div-eq_of_lt, mul-add-div_right}
use Rattle.lms_tree.specs.declared.band.Rows.{Rows}
use Rattle.lms_tree.specs.Bands.{bottom_height, lower_rows}
use Rattle.lms_tree.specs.Kept.{subtree_rows, upper_height}

pub leaf-between : (m n q : ℕ) → q / 2 ^ m ≡ n → (n * 2 ^ m ≤ q) × (q ≤ n * 2 ^ m + (2 ^ m - 1))
leaf-between m n q at =
    let below : q < (n + 1) * 2 ^ m = (div-lt_iff_lt-mul (pow_pos m)).0 (omega (arith, at)) in
    ((le-div_iff_mul-le (pow_pos m)).0 (omega (arith, at)), omega (arith, below, pow_pos m))

pub leaves-in-tree : (h n : ℕ) → n < 2 ^ upper_height h
    → n * 2 ^ bottom_height h + (2 ^ bottom_height h - 1) < 2 ^ h
leaves-in-tree h n in_tree =
    let m = bottom_height h in
    let t = upper_height h in
    let parts : 2 ^ (t + m) ≡ 2 ^ t * 2 ^ m = pow-add 2 t m in
    let whole : t + m ≡ h = omega arith in
    let most : (n + 1) * 2 ^ m ≤ 2 ^ t * 2 ^ m = mul-le-mul_right (2 ^ m) (omega (arith, in_tree)) in
    omega (arith, most, parts, ap (λ k. 2 ^ k) whole, pow_pos m)

same-rows : (depth first first' width width' : ℕ) → first ≡ first' → width ≡ width'
    → ◌≡◌ {A = Rows} (record { first = first; width = width; depth = depth })
    (record { first = first'; width = width'; depth = depth })
same-rows depth first first' width width' a b = rw (a, b)

-- the rows that serve them are that subtree's
pub rows-of-leaves : (h n : ℕ)
    → lower_rows h (n * 2 ^ bottom_height h) (n * 2 ^ bottom_height h + (2 ^ bottom_height h - 1)) ≡ subtree_rows h n
rows-of-leaves h n =
    let m = bottom_height h in
    let some = pow_pos m in
    let last : (n * 2 ^ m + (2 ^ m - 1)) / 2 ^ m ≡ n =
    omega (arith, mul-add-div_right some n (2 ^ m - 1), div-eq_of_lt {n = 2 ^ m - 1} {m = 2 ^ m} (omega arith)) in
    let first : n * 2 ^ m / 2 ^ m ≡ n = shl-shr n m in
    same-rows m _ _ _ _ (omega (arith, first)) (omega (arith, first, last))
