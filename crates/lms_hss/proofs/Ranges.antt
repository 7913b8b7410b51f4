-- The leaves of a tree that a range of indices goes through.
use Rattle.std.proofs.Common.{ℕ, ◌≡◌, ◌+◌, ◌-◌, ◌*◌, ◌/◌, ◌^◌, ◌<◌, ◌≤◌, length, sym, ◌∙◌, ap, arith, lit≤, pow_pos}
use Rattle.std.proofs.Common.{drop}
use Rattle.std.proofs.Math.Nat.{mul-le-mul_left, add-mul-div_right, div-lt_iff_lt-mul, le-div_iff_mul-le}
use Rattle.std.proofs.Math.Pow.{shr_mono}
use Rattle.std.proofs.lemmas.Nat.{shr_split}
use Rattle.lms_spec.specs.Hss.{HssKey, level as level_at, height_of}
use Rattle.lms_spec.specs.Profile.{leaf_at}
use Rattle.lms_params.specs.LmsType.{lms_set_of}
use Rattle.lms_params.specs.declared.lms_type.LmsType.{LmsType}
use Rattle.lms_params.specs.declared.lms_type.LmsType.TheVariants.{H5, H10, H15, H20, H25}
use Rattle.lms_hss.specs.Keys.{tree_number}
use Rattle.lms_hss.proofs.Forests.{number-above, number-order}

-- no tree is taller
pub low-tree : (t : LmsType) → (lms_set_of t).h ≤ 25
low-tree H5 = lit≤ tt
low-tree H10 = lit≤ tt
low-tree H15 = lit≤ tt
low-tree H20 = lit≤ tt
low-tree H25 = lit≤ tt

-- parts are no further apart than their wholes
shr-near : (a b n : ℕ) → b ≤ a → a / 2 ^ n ≤ b / 2 ^ n + (a - b)
shr-near a b n order =
    let far : a ≤ b + (a - b) * 2 ^ n = omega (arith, grows (a - b) n) in
    let more = shr_mono n far in
    omega (arith, more, add-mul-div_right b (a - b) (pow_pos n))
  where
    grows : (m n : ℕ) → m ≤ m * 2 ^ n
    grows m n = let some : m * 1 ≤ m * 2 ^ n = mul-le-mul_left m (pow_pos n) in omega arith

-- the leaves of a level that a range of indices goes through, and those of one tree of it
pub range-leaves : (key : HssKey) (k start last number : ℕ) → k < length key.levels → start ≤ last
    → tree_number key start k ≤ number → number ≤ tree_number key last k
    → (number * 2 ^ (level_at key k).lms.h ≤ tree_number key last (k + 1))
    × (tree_number key start (k + 1) < number * 2 ^ (level_at key k).lms.h + 2 ^ (level_at key k).lms.h)
    × (tree_number key start (k + 1) ≤ tree_number key last (k + 1))
    × (tree_number key last (k + 1) ≤ tree_number key start (k + 1) + (last - start))
range-leaves key k start last number there order from to =
    let h = (level_at key k).lms.h in
    let low = number-above key start k there in
    let high = number-above key last k there in
    let before : number * 2 ^ h ≤ tree_number key last (k + 1) = (le-div_iff_mul-le (pow_pos h)).0 (omega arith) in
    let after : tree_number key start (k + 1) < (number + 1) * 2 ^ h =
    (div-lt_iff_lt-mul (pow_pos h)).0 (omega arith) in (
      before,
      omega arith,
      number-order key (k + 1) start last order,
      shr-near last start (height_of (drop (k + 1) key.levels)) order,
    )

-- where an index's leaf is in its level
pub leaf-place : (key : HssKey) (g k number : ℕ) → k < length key.levels → tree_number key g k ≡ number
    → number * 2 ^ (level_at key k).lms.h + leaf_at key g k ≡ tree_number key g (k + 1)
leaf-place key g k number there e =
    let h = (level_at key k).lms.h in
    let above : tree_number key g (k + 1) / 2 ^ h ≡ number = number-above key g k there ∙ e in
    ap (λ n. n * 2 ^ h + leaf_at key g k) (sym above) ∙ shr_split (tree_number key g (k + 1)) h
