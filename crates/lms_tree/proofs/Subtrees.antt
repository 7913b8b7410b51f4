-- The bottom subtrees that hold a range of leaves have all nodes below their roots that signatures
-- by these leaves need.
use Rattle.std.proofs.Common.{ℕ, ◌≡◌, ◌≢◌, ◌+◌, ◌-◌, ◌*◌, ◌/◌, ◌%◌, ◌^◌, ◌<◌, ◌≤◌, ◌==◌, inl, inr, sym, ◌∙◌, ap, arith}
use Rattle.std.proofs.Common.{subst, ⊎_elim, eqb-true, pow_pos, pow_mono, pow-suc, add-one, shr-shr}
use Rattle.std.proofs.lemmas.Bool.{cases_Bool, eqb-false}
use Rattle.std.proofs.lemmas.Nat.{pow-add}
use Rattle.std.proofs.Math.Nat.{lt_of_not-le, le-div_iff_mul-le, div-lt_iff_lt-mul, div-eq_of_lt, mul-add-div_right}
use Rattle.std.proofs.Math.Pow.{shr_mono}
use Rattle.lms_spec.specs.Tree.{sibling}
use Rattle.lms_tree.specs.Served.{IsNeeded}
use Rattle.lms_tree.specs.Bands.{bottom_height, lower_rows}

sibling-half : (n : ℕ) → sibling n / 2 ≡ n / 2
sibling-half n =
    ⊎_elim
    (λ e. let even : n % 2 ≡ 0 = eqb-true (n % 2) 0 e in rw e (omega arith))
    (λ e. let odd : n % 2 ≢ 0 = eqb-false (n % 2) 0 e in rw e (omega arith))
    (cases_Bool (n % 2 == 0))

-- a node in a path has the same nodes above it as its sibling
sibling-shr : (n j : ℕ) → 1 ≤ j → sibling n / 2 ^ j ≡ n / 2 ^ j
sibling-shr n j some =
    let whole : 1 + (j - 1) ≡ j = omega arith in
    let up : (r : ℕ) → r / 2 ^ 1 / 2 ^ (j - 1) ≡ r / 2 ^ j = λ r. shr-shr r 1 (j - 1) ∙ ap (λ k. r / 2 ^ k) whole in
    sym (up (sibling n)) ∙ (ap (λ r. r / 2 ^ (j - 1)) (sibling-half n) ∙ up n)

-- the rows of a tree don't overlap
pub row-at-most : (level h r : ℕ) → 2 ^ level ≤ r → r < 2 * 2 ^ h → level ≤ h
row-at-most level h r from to =
    let near : level < h + 1 = lt_of_not-le (λ far. let more : 2 ^ (h + 1) ≤ 2 ^ level = pow_mono far in
    let twice : 2 ^ (h + 1) ≡ 2 ^ h * 2 = ap (λ n. 2 ^ n) (add-one h) ∙ pow-suc 2 h in omega arith) in
    omega arith

-- the nodes above a node of a leaf's path, in a tree whose bottom subtrees have height m
shr-in-path : (t m leaf k j r : ℕ) → k + j ≡ m → 1 ≤ j → r ≡ sibling ((2 ^ (t + m) + leaf) / 2 ^ k)
    → r / 2 ^ j ≡ 2 ^ t + leaf / 2 ^ m
shr-in-path t m leaf k j r whole some is =
    let parts : 2 ^ (t + m) ≡ 2 ^ t * 2 ^ m = pow-add 2 t m in
    ap (λ r. r / 2 ^ j) is
    ∙ (sibling-shr ((2 ^ (t + m) + leaf) / 2 ^ k) j some
    ∙ (shr-shr (2 ^ (t + m) + leaf) k j
    ∙ (ap (λ n. (2 ^ (t + m) + leaf) / 2 ^ n) whole
    ∙ (ap (λ n. (n + leaf) / 2 ^ m) parts ∙ mul-add-div_right (pow_pos m) (2 ^ t) leaf))))

-- the row of a node in a leaf's path
row-in-path : (t m leaf k r level : ℕ) → leaf < 2 ^ (t + m) → k < t + m → r ≡ sibling ((2 ^ (t + m) + leaf) / 2 ^ k)
    → 2 ^ level ≤ r → r < 2 * 2 ^ level → level + k ≡ t + m
row-in-path t m leaf k r level in_tree low is from to =
    let h = t + m in
    let up = h - k in
    let whole : h ≡ 0 + h = omega arith in
    let above : r / 2 ^ up ≡ 1 + leaf / 2 ^ h = shr-in-path 0 h leaf k up r (omega arith) (omega arith)
    (subst (λ n. r ≡ sibling ((2 ^ n + leaf) / 2 ^ k)) whole is) in
    let none : leaf / 2 ^ h ≡ 0 = div-eq_of_lt in_tree in
    let at_least : 1 * 2 ^ up ≤ r = (le-div_iff_mul-le (pow_pos up)).0 (omega arith) in
    let below : r < 2 * 2 ^ up = (div-lt_iff_lt-mul (pow_pos up)).0 (omega arith) in
    omega (arith, row-at-most level up r from below, row-at-most up level r (omega arith) to)

is-root : (r : ℕ) → r ≡ 1 → 2 ≤ r → ⊥
is-root r is more = omega arith

-- a needed node is in the bottom subtrees of the leaves served, where it is below
-- their roots
below-roots : (t m first last r level : ℕ) → last < 2 ^ (t + m) → IsNeeded (t + m) first last r → 2 ^ level ≤ r
    → r < 2 * 2 ^ level → t < level
    → (level - t ≤ m) × ((2 ^ t + first / 2 ^ m) * 2 ^ (level - t) ≤ r)
    × (r < (2 ^ t + first / 2 ^ m + (last / 2 ^ m - first / 2 ^ m + 1)) * 2 ^ (level - t))
below-roots t m first last r level in_tree (inl is) from to below =
    let two : 2 ^ 1 ≤ 2 ^ level = pow_mono {i = 1} {j = level} (omega arith) in
    absurd (is-root r is (omega (arith, two, from)))
below-roots t m first last r level in_tree (inr p) from to below =
    let j = level - t in
    let sum = row-in-path t m p.leaf p.level r level (omega (arith, p.to_last)) p.below_root p.is_sibling from to in
    let above : r / 2 ^ j ≡ 2 ^ t + p.leaf / 2 ^ m =
    shr-in-path t m p.leaf p.level j r (omega arith) (omega arith) p.is_sibling in
    let lower : first / 2 ^ m ≤ p.leaf / 2 ^ m = shr_mono m p.from_first in
    let upper : p.leaf / 2 ^ m ≤ last / 2 ^ m = shr_mono m p.to_last in
    (omega arith, (le-div_iff_mul-le (pow_pos j)).0 (omega arith), (div-lt_iff_lt-mul (pow_pos j)).0 (omega arith))

kept-part : (h : ℕ) → h - bottom_height h + bottom_height h ≡ h
kept-part h = omega arith

pub needed-in-lower : (h first last r level : ℕ) → last < 2 ^ h → IsNeeded h first last r → 2 ^ level ≤ r
    → r < 2 * 2 ^ level → h - bottom_height h < level
    → (level - (h - bottom_height h) ≤ bottom_height h)
    × ((lower_rows h first last).first * 2 ^ (level - (h - bottom_height h)) ≤ r)
    × (r < ((lower_rows h first last).first + (lower_rows h first last).width) * 2 ^ (level - (h - bottom_height h)))
needed-in-lower h first last r level in_tree needed from to below =
    let t = h - bottom_height h in
    let m = bottom_height h in
    let whole : h ≡ t + m = sym (kept-part h) in
    below-roots t m first last r level (subst (λ h. last < 2 ^ h) whole in_tree)
    (subst (λ h. IsNeeded h first last r) whole needed) from to below
