-- The checksum: no hash's digits all lie at or below another's.
use Rattle.std.proofs.Common.{ℕ, zero, suc, ◌≡◌, ◌+◌, ◌-◌, ◌*◌, ◌/◌, ◌%◌, ◌^◌, ◌<◌, ◌≤◌, List, ◌++◌, map, length, sum}
use Rattle.std.proofs.Common.{slice_index, Some, ⊎_elim, refl, sym, ◌∙◌, ap, arith, add-one, lit≤, pow_pos, pow-add}
use Rattle.std.proofs.Common.{pow-suc, div-one, mul-div_cancel, mul-le-mul_right, lt_of_mul-lt-mul_right, subst}
use Rattle.std.proofs.Common.{length-append, div-add-mod'}
use Rattle.std.proofs.Math.Nat.{div-div-eq-div-mul, mul-add-div_right, mul-add-mod_self_right, pow-succ', pow-zero}
use Rattle.std.proofs.Math.Nat.{one-le-pow}
use Rattle.std.proofs.lemmas.Nat.{div-mul-add, div_below, mod_below}
use Rattle.std.proofs.lemmas.Bool.{cases_lt}
use Rattle.lms_spec.specs.Parameters.{OtsSet, ots_set}
use Rattle.lms_spec.specs.Digits.{digit, checksum, digits_of}
use Rattle.lms_spec.specs.Bytes.{below, number_of, u16str}
use Rattle.lms_spec.proofs.Numbers.{number_of-append, number_of-u16}
use Rattle.lms_spec.proofs.Below.{get_or-map-below, sum-below-push}
use Rattle.lms_spec.proofs.Sets.{by_ots_set, checksum-fits}

sum-push : (f : ℕ → ℕ) (n : ℕ) → sum (map f (below (suc n))) ≡ sum (map f (below n)) + f n
sum-push f n = ap (λ k. sum (map f (below k))) (sym (add-one n)) ∙ sum-below-push f n

sum-le : (f g : ℕ → ℕ) (n : ℕ) → ((i : ℕ) → i < n → f i ≤ g i) → sum (map f (below n)) ≤ sum (map g (below n))
sum-le f g zero below = lit≤ tt
sum-le f g (suc n) each =
    let here = each n (omega arith) in
    let there = sum-le f g n (λ i h. each i (omega arith)) in
    omega (arith, sum-push f n, sum-push g n)

sum-same : (f g : ℕ → ℕ) (n : ℕ) → ((i : ℕ) → i < n → f i ≤ g i) → sum (map g (below n)) ≤ sum (map f (below n))
    → (i : ℕ) → i < n → f i ≡ g i
sum-same f g zero each sums i h = absurd (omega arith)
sum-same f g (suc n) each sums i h =
    let here = each n (omega arith) in
    let there = sum-le f g n (λ i h. each i (omega arith)) in
    ⊎_elim
    (λ (lt : i < n). sum-same f g n (λ i h. each i (omega arith)) (omega (arith, sum-push f n, sum-push g n)) i lt)
    (λ (ge : n ≤ i). let e : n ≡ i = omega arith in let last : f n ≡ g n = omega (arith, sum-push f n, sum-push g n) in
    subst (λ k. f k ≡ g k) e last)
    (cases_lt i n)

-- a number whose digits all lie at or below another's is at or below it
digits-le : (b k m n : ℕ) → 0 < b → m < b ^ k → ((j : ℕ) → j < k → m / b ^ j % b ≤ n / b ^ j % b) → m ≤ n
digits-le b zero m n some low each = let one : m < 1 = rw (pow-zero b) at low in omega arith
digits-le b (suc k) m n some low each =
    let first : m % b ≤ n % b = rw (pow-zero b, div-one m, div-one n) at (each 0 (omega arith)) in
    let next : (x j : ℕ) → x / b ^ suc j % b ≡ x / b / b ^ j % b
    = λ x j. ap (λ y. x / y % b) (pow-succ' b j) ∙ ap (λ y. y % b) (sym (div-div-eq-div-mul x b (b ^ j))) in
    let rest : m / b ≤ n / b
    = digits-le b k (m / b) (n / b) some (div_below m b (b ^ k) some (omega (arith, pow-suc b k)))
    (λ j h. rw (next m j, next n j) at (each (suc j) (omega arith))) in
    let top : m / b * b ≤ n / b * b = mul-le-mul_right b rest in
    omega (arith, div-add-mod' m b, div-add-mod' n b)

-- what the columns of the table have to do with each other
record Columns (t : OtsSet) : Type 0 where
  digits : 8 * 34 / t.w ≡ t.p + t.ls / t.w
  shift : (2 ^ t.w) ^ (t.ls / t.w) ≡ 2 ^ t.ls
  two_bytes : (2 ^ t.w) ^ (t.p - 256 / t.w) * 2 ^ t.ls ≡ 2 ^ 16
  more : 256 / t.w ≤ t.p

columns : (t : OtsSet) → ots_set t.code ≡ Some t → Columns t
columns t known =
    by_ots_set Columns
    (record { digits = refl; shift = refl; two_bytes = refl; more = lit≤ tt })
    (record { digits = refl; shift = refl; two_bytes = refl; more = lit≤ tt })
    (record { digits = refl; shift = refl; two_bytes = refl; more = lit≤ tt })
    (record { digits = refl; shift = refl; two_bytes = refl; more = lit≤ tt })
    t.code t known

-- the sum that the checksum shifts
abbrev total : OtsSet → List ℕ → ℕ
total t hash = sum (map (λ i. 2 ^ t.w - 1 - digit hash i t.w) (below (256 / t.w)))

abbrev text_of : OtsSet → List ℕ → List ℕ
text_of t hash = hash ++ u16str (checksum t hash)

number-text : (t : OtsSet) (hash : List ℕ) → ots_set t.code ≡ Some t
    → number_of (text_of t hash) ≡ number_of hash * 2 ^ 16 + checksum t hash
unfolding checksum
number-text t hash known =
    number_of-append hash (u16str (checksum t hash))
    ∙ ap (λ n. number_of hash * 2 ^ 16 + n) (number_of-u16 (checksum t hash) (checksum-fits t hash known))

digits-text : (t : OtsSet) (hash : List ℕ) → ots_set t.code ≡ Some t → length hash ≡ 32
    → 8 * length (text_of t hash) / t.w ≡ t.p + t.ls / t.w
digits-text t hash known long =
    let all : length (text_of t hash) ≡ 34 = length-append hash (u16str (checksum t hash)) ∙ omega arith in
    ap (λ n. 8 * n / t.w) all ∙ (columns t known).digits

-- the digits before the checksum's are the hash's own
front-digit : (t : OtsSet) (hash : List ℕ) (i : ℕ) → ots_set t.code ≡ Some t → length hash ≡ 32 → i < 256 / t.w
    → digit (text_of t hash) i t.w ≡ digit hash i t.w
unfolding digit
front-digit t hash i known long h =
    let b = 2 ^ t.w in
    let k = t.p - 256 / t.w in
    let c = t.ls / t.w in
    let e = 256 / t.w - 1 - i in
    let col = columns t known in
    let more = col.more in
    let place : 8 * length (text_of t hash) / t.w - 1 - i ≡ (k + c) + e =
    ap (λ n. n - 1 - i) (digits-text t hash known long) ∙ omega arith in
    let own : 8 * length hash / t.w - 1 - i ≡ e = ap (λ n. 8 * n / t.w - 1 - i) long in
    let two_bytes : b ^ (k + c) ≡ 2 ^ 16 = pow-add b k c ∙ (ap (λ n. b ^ k * n) col.shift ∙ col.two_bytes) in
    let power : b ^ ((k + c) + e) ≡ 2 ^ 16 * b ^ e = pow-add b (k + c) e ∙ ap (λ n. n * b ^ e) two_bytes in
    ap (λ n. number_of (text_of t hash) / b ^ n % b) place
    ∙ (ap (λ n. number_of (text_of t hash) / n % b) power
    ∙ (ap (λ n. n % b) (sym (div-div-eq-div-mul (number_of (text_of t hash)) (2 ^ 16) (b ^ e)))
    ∙ (ap (λ n. n / b ^ e % b) (ap (λ n. n / 2 ^ 16) (number-text t hash known)
    ∙ div-mul-add (number_of hash) (2 ^ 16) (checksum t hash) (checksum-fits t hash known))
    ∙ ap (λ n. number_of hash / b ^ n % b) (sym own))))

-- the last digits are those of the sum
last-digit : (t : OtsSet) (hash : List ℕ) (j : ℕ) → ots_set t.code ≡ Some t → length hash ≡ 32 → j < t.p - 256 / t.w
    → digit (text_of t hash) (t.p - 1 - j) t.w ≡ total t hash / (2 ^ t.w) ^ j % 2 ^ t.w
unfolding digit checksum
last-digit t hash j known long h =
    let b = 2 ^ t.w in
    let k = t.p - 256 / t.w in
    let c = t.ls / t.w in
    let m = k - 1 - j in
    let n = number_of hash in
    let s = total t hash in
    let col = columns t known in
    let place : 8 * length (text_of t hash) / t.w - 1 - (t.p - 1 - j) ≡ c + j =
    ap (λ x. x - 1 - (t.p - 1 - j)) (digits-text t hash known long) ∙ omega arith in
    let power : b ^ (c + j) ≡ 2 ^ t.ls * b ^ j = pow-add b c j ∙ ap (λ x. x * b ^ j) col.shift in
    let whole : number_of (text_of t hash) ≡ (n * b ^ k + s) * 2 ^ t.ls =
    number-text t hash known ∙ omega (arith, ap (λ x. n * x) col.two_bytes) in
    let split : (m + 1) + j ≡ k = omega arith in
    let parts : b ^ k ≡ (b ^ m * b) * b ^ j = ap (λ x. b ^ x) (sym split)
    ∙ (pow-add b (m + 1) j ∙ ap (λ x. x * b ^ j) (ap (λ x. b ^ x) (add-one m) ∙ pow-suc b m)) in
    let inner : n * b ^ k + s ≡ (n * b ^ m * b) * b ^ j + s = omega (arith, ap (λ x. n * x) parts) in
    ap (λ x. number_of (text_of t hash) / b ^ x % b) place
    ∙ (ap (λ x. number_of (text_of t hash) / x % b) power
    ∙ (ap (λ x. x % b) (sym (div-div-eq-div-mul (number_of (text_of t hash)) (2 ^ t.ls) (b ^ j)))
    ∙ (ap (λ x. x / 2 ^ t.ls / b ^ j % b) whole
    ∙ (ap (λ x. x / b ^ j % b) (mul-div_cancel (n * b ^ k + s) (pow_pos t.ls) ∙ inner)
    ∙ (ap (λ x. x % b) (mul-add-div_right (one-le-pow j b (pow_pos t.w)) (n * b ^ m * b) s)
    ∙ mul-add-mod_self_right (n * b ^ m) b (s / b ^ j))))))

pub guarded : (t : OtsSet) (hash hash' : List ℕ) → ots_set t.code ≡ Some t → length hash ≡ 32 → length hash' ≡ 32
    → ((i : ℕ) → i < t.p → slice_index (digits_of t hash) i ≤ slice_index (digits_of t hash') i)
    → (i : ℕ) → i < 256 / t.w → digit hash i t.w ≡ digit hash' i t.w
unfolding digits_of digit checksum
guarded t hash hash' known long long' each =
    let b = 2 ^ t.w in
    let n = 256 / t.w in
    let k = t.p - n in
    let col = columns t known in
    let more = col.more in
    let at : (hash : List ℕ) (i : ℕ) → i < t.p → slice_index (digits_of t hash) i ≡ digit (text_of t hash) i t.w
    = λ hash i h. get_or-map-below (λ i. digit (text_of t hash) i t.w) t.p i 0 h in
    let below_text : (i : ℕ) → i < t.p → digit (text_of t hash) i t.w ≤ digit (text_of t hash') i t.w
    = λ i h. rw (at hash i h, at hash' i h) at (each i h) in
    let front : (i : ℕ) → i < n → digit hash i t.w ≤ digit hash' i t.w
    = λ i h. rw (front-digit t hash i known long h, front-digit t hash' i known long' h) at
    (below_text i (omega arith)) in
    let back : (j : ℕ) → j < k → total t hash / b ^ j % b ≤ total t hash' / b ^ j % b
    = λ j h. rw (last-digit t hash j known long h, last-digit t hash' j known long' h) at
    (below_text (t.p - 1 - j) (omega arith)) in
    let small : total t hash * 2 ^ t.ls < b ^ k * 2 ^ t.ls = rw (← col.two_bytes) at (checksum-fits t hash known) in
    let sums : total t hash ≤ total t hash' =
    digits-le b k (total t hash) (total t hash') (pow_pos t.w) (lt_of_mul-lt-mul_right (2 ^ t.ls) small) back in
    λ i h.
    let same : b - 1 - digit hash' i t.w ≡ b - 1 - digit hash i t.w
    = sum-same (λ i. b - 1 - digit hash' i t.w) (λ i. b - 1 - digit hash i t.w) n
    (λ i h. let le = front i h in omega arith) sums i h in
    let lt : digit hash i t.w < b = mod_below _ b (pow_pos t.w) in
    let lt' : digit hash' i t.w < b = mod_below _ b (pow_pos t.w) in
    omega arith
