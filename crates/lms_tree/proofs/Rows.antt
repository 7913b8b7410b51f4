-- Rows of a tree: how many nodes they have, and where they are.
use Rattle.std.proofs.Common.{ℕ, suc, ◌≡◌, ◌+◌, ◌-◌, ◌*◌, ◌^◌, ◌<◌, ◌≤◌, ◌∙◌, ap, arith, add-one, pow-suc, pow_pos}
use Rattle.std.proofs.Common.{pow_mono, mul-le-mul_right}
use Rattle.std.proofs.Math.Nat.{lt_of_not-le, mul-le-mul_left}
use Rattle.lms_tree.specs.declared.band.Row.{Row}
use Rattle.lms_tree.specs.declared.band.Rows.{Rows}
use Rattle.lms_tree.specs.Held.{AreInTree, row_of, row_below, nodes_in}

-- the nodes of a row
pub row-fits : (h : ℕ) (rows : Rows) (level : ℕ) → AreInTree h rows → level ≤ rows.depth
    → (rows.first + rows.width) * 2 ^ level ≤ 2 * 2 ^ h
row-fits h rows level is down =
    let here : (rows.first + rows.width) * 2 ^ level ≤ (rows.first + rows.width) * 2 ^ rows.depth =
    mul-le-mul_left (rows.first + rows.width) (pow_mono down) in
    omega (arith, is.to_leaves)

-- how many rows there are
pub depth-fits : (rows : Rows) → AreInTree 25 rows → rows.depth < 26
depth-fits rows is =
    let some = is.some in
    let root = is.from_root in
    let two : 2 * 2 ^ rows.depth ≤ (rows.first + rows.width) * 2 ^ rows.depth =
    mul-le-mul_right (2 ^ rows.depth) (omega arith) in
    lt_of_not-le (λ far. let more : 2 ^ 26 ≤ 2 ^ rows.depth = pow_mono far in omega (arith, is.to_leaves))

-- a row has at least the nodes of the top row
pub row-some : (width level : ℕ) → width ≤ width * 2 ^ level
row-some width level = let more : width * 1 ≤ width * 2 ^ level = mul-le-mul_left width (pow_pos level) in omega arith

pub twice : (n level : ℕ) → n * 2 ^ (level + 1) ≡ 2 * (n * 2 ^ level)
twice n level =
    let double : n * 2 ^ suc level ≡ n * (2 ^ level * 2) = ap (λ m. n * m) (pow-suc 2 level) in
    ap (λ k. n * 2 ^ k) (add-one level) ∙ omega arith

same-row : (f f' n n' p p' : ℕ) → f ≡ f' → n ≡ n' → p ≡ p'
    → ◌≡◌ {A = Row} (record { first = f; count = n; place = p }) (record { first = f'; count = n'; place = p' })
same-row f f' n n' p p' a b c = rw (a, b, c)

-- each row is after the one above it
pub row-next : (rows : Rows) (level : ℕ) → row_of rows (level + 1) ≡ row_below (row_of rows level)
row-next rows level =
    let some = row-some rows.width level in
    same-row _ _ _ _ _ _ (twice rows.first level) (twice rows.width level) (omega (arith, twice rows.width level))

-- and before all that are lower
pub row-ends : (width level lower : ℕ) → level < lower → 2 * (width * 2 ^ level) ≤ width * 2 ^ lower
row-ends width level lower below =
    let more : width * 2 ^ (level + 1) ≤ width * 2 ^ lower = mul-le-mul_left width (pow_mono (omega arith)) in
    omega (arith, twice width level)

times-one-less : (n k m : ℕ) → k + 1 ≡ m → n * k + n ≡ n * m
times-one-less n k m e = let more : n * (k + 1) ≡ n * m = ap (λ m. n * m) e in omega arith

-- the number of nodes of all rows
pub count-nodes : (rows : Rows) → nodes_in rows + rows.width ≡ 2 * (rows.width * 2 ^ rows.depth)
count-nodes rows =
    let some = pow_pos (rows.depth + 1) in
    times-one-less rows.width (2 ^ (rows.depth + 1) - 1) (2 ^ (rows.depth + 1)) (omega arith)
    ∙ twice rows.width rows.depth

-- the lowest row ends the list
pub lowest-ends : (rows : Rows) → (row_of rows rows.depth).place + (row_of rows rows.depth).count ≡ nodes_in rows
lowest-ends rows = let some = row-some rows.width rows.depth in omega (arith, count-nodes rows)

-- the place of a node is in the list
pub place-fits : (rows : Rows) (level r : ℕ) → level ≤ rows.depth → rows.first * 2 ^ level ≤ r
    → r < (rows.first + rows.width) * 2 ^ level
    → (row_of rows level).place + (r - (row_of rows level).first) < nodes_in rows
place-fits rows level r down from to =
    let ends = row-ends rows.width level (rows.depth + 1) (omega arith) in
    let some = row-some rows.width level in
    omega (arith, ends, some, count-nodes rows, twice rows.width rows.depth)
