-- What holds of the sets of the tables, of their typecodes and of their checksums.
use Rattle.std.proofs.Common.{ℕ, ◌≡◌, ◌-◌, ◌*◌, ◌/◌, ◌^◌, ◌<◌, ◌≤◌, ◌==◌, ◌⊎◌, List, Bool, true, false, cond, map}
use Rattle.std.proofs.Common.{Option, Some, inl, inr, ⊎_elim, subst, arith, lit<, lit≤, refl, mul-le-mul_right, ap, sym}
use Rattle.std.proofs.Common.{◌∙◌, eqb-true, [], ◌∷◌}
use Rattle.std.specs.List.{find}
use Rattle.std.proofs.lemmas.List.Sums.{sum_by-le}
use Rattle.std.proofs.lemmas.Option.{none-some, same_Some}
use Rattle.lms_spec.specs.Parameters.{OtsSet, LmsSet, ots_w1, ots_w2, ots_w4, ots_w8, lms_h5, lms_h10, lms_h15, lms_h20}
use Rattle.lms_spec.specs.Parameters.{lms_h25, ots_sets, lms_sets, ots_set, lms_set}
use Rattle.lms_spec.specs.Digits.{digit, checksum}
use Rattle.lms_spec.specs.Bytes.{below}
use Rattle.lms_spec.specs.Laws.{FollowsFromWidth}
use Rattle.lms_spec.proofs.Below.{length-map-below, All-map-below}

peel : {X : Type 0} (b : Bool) (x t : X) (rest : Option X) → cond b (Some x) rest ≡ Some t → (x ≡ t) ⊎ (rest ≡ Some t)
peel true x t rest e = inl (cc)
peel false x t rest e = inr e

pub by_ots_set : (P : OtsSet → Type 0) → P ots_w1 → P ots_w2 → P ots_w4 → P ots_w8
    → (c : ℕ) (t : OtsSet) → ots_set c ≡ Some t → P t
by_ots_set P w1 w2 w4 w8 c t e =
    ⊎_elim (λ h. subst P h w1) (λ e.
    ⊎_elim (λ h. subst P h w2) (λ e. ⊎_elim (λ h. subst P h w4) (λ e. ⊎_elim (λ h. subst P h w8) (λ e. absurd (cc))
    (peel (4 == c) ots_w8 t _ e)) (peel (3 == c) ots_w4 t _ e)) (peel (2 == c) ots_w2 t _ e))
    (peel (1 == c) ots_w1 t _ e)

pub by_lms_set : (P : LmsSet → Type 0) → P lms_h5 → P lms_h10 → P lms_h15 → P lms_h20 → P lms_h25
    → (c : ℕ) (m : LmsSet) → lms_set c ≡ Some m → P m
by_lms_set P h5 h10 h15 h20 h25 c m e =
    ⊎_elim (λ h. subst P h h5) (λ e. ⊎_elim (λ h. subst P h h10) (λ e.
    ⊎_elim (λ h. subst P h h15) (λ e. ⊎_elim (λ h. subst P h h20) (λ e. ⊎_elim (λ h. subst P h h25) (λ e. absurd (cc))
    (peel (9 == c) lms_h25 m _ e)) (peel (8 == c) lms_h20 m _ e)) (peel (7 == c) lms_h15 m _ e))
    (peel (6 == c) lms_h10 m _ e)) (peel (5 == c) lms_h5 m _ e)

pub columns-follow : (t : OtsSet) → ots_set t.code ≡ Some t → FollowsFromWidth t
columns-follow t known =
    by_ots_set FollowsFromWidth
    (record { v = 9; chains = refl; holds = lit< tt; least = lit≤ tt; shift = refl })
    (record { v = 5; chains = refl; holds = lit< tt; least = lit≤ tt; shift = refl })
    (record { v = 3; chains = refl; holds = lit< tt; least = lit≤ tt; shift = refl })
    (record { v = 2; chains = refl; holds = lit< tt; least = lit≤ tt; shift = refl })
    t.code t known

checksum-le : (t : OtsSet) (hash : List ℕ) → checksum t hash ≤ 256 / t.w * (2 ^ t.w - 1) * 2 ^ t.ls
unfolding checksum digit
checksum-le t hash =
    let f : ℕ → ℕ = λ i. 2 ^ t.w - 1 - digit hash i t.w in
    let most = sum_by-le (λ n. n) (2 ^ t.w - 1) (map f (below (256 / t.w)))
    (All-map-below (λ n. n ≤ 2 ^ t.w - 1) f (256 / t.w) (λ i. omega arith)) in
    mul-le-mul_right (2 ^ t.ls) (rw (length-map-below f (256 / t.w)) at most)

pub checksum-fits : (t : OtsSet) (hash : List ℕ) → ots_set t.code ≡ Some t → checksum t hash < 2 ^ 16
checksum-fits t hash known =
    let most = by_ots_set (λ t. 256 / t.w * (2 ^ t.w - 1) * 2 ^ t.ls < 2 ^ 16) (lit< tt) (lit< tt) (lit< tt)
    (lit< tt) t.code t known in
    omega (arith, checksum-le t hash)

first-found : {X : Type 0} (p : X → Bool) (b : Bool) (x y : X) (rest : Option X)
    → p x ≡ b → cond b (Some x) rest ≡ Some y → (rest ≡ Some y → p y ≡ true) → p y ≡ true
first-found p true x y rest e h later = ap p (sym (same_Some x y h)) ∙ e
first-found p false x y rest e h later = later h

-- what `find` gives passes the test
passes-find : {X : Type 0} (p : X → Bool) (xs : List X) (y : X) → find p xs ≡ Some y → p y ≡ true
passes-find p [] y h = absurd (none-some y h)
passes-find p (x ∷ xs) y h = first-found p (p x) x y (find p xs) refl h (passes-find p xs y)

pub code-ots_set : (n : ℕ) (t : OtsSet) → ots_set n ≡ Some t → t.code ≡ n
code-ots_set n t e = eqb-true t.code n (passes-find (λ (t : OtsSet). t.code == n) ots_sets t e)

pub code-lms_set : (n : ℕ) (m : LmsSet) → lms_set n ≡ Some m → m.code ≡ n
code-lms_set n m e = eqb-true m.code n (passes-find (λ (m : LmsSet). m.code == n) lms_sets m e)

pub small-ots_code : (t : OtsSet) → ots_set t.code ≡ Some t → t.code < 2 ^ 32
small-ots_code t known = by_ots_set (λ t. t.code < 2 ^ 32) (lit< tt) (lit< tt) (lit< tt) (lit< tt) t.code t known

pub small-lms_code : (m : LmsSet) → lms_set m.code ≡ Some m → m.code < 2 ^ 32
small-lms_code m known =
    by_lms_set (λ m. m.code < 2 ^ 32) (lit< tt) (lit< tt) (lit< tt) (lit< tt) (lit< tt) m.code m known

-- a leaf's number fits four bytes
pub small-leaf : (m : LmsSet) (q : ℕ) → lms_set m.code ≡ Some m → q < 2 ^ m.h → q < 2 ^ 32
small-leaf m q known h =
    let most = by_lms_set (λ m. 2 ^ m.h < 2 ^ 32) (lit< tt) (lit< tt) (lit< tt) (lit< tt) (lit< tt) m.code m known in
    omega arith
