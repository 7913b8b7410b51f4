-- Orders of chains, and chains that are under way.
use Rattle.std.proofs.Common.{ℕ, ◌≡◌, ◌+◌, ◌%◌, ◌<◌, ◌≤◌, Bool, true, false, eqb, ltb, List, [], ◌++◌}
use Rattle.std.proofs.Common.{length, All, get_or, set, slice_index, refl, sym, ◌∙◌, ap, ap₂, arith, subst, inl, inr}
use Rattle.std.specs.List.Sorted.{IsPermutation}
use Rattle.std.proofs.lemmas.Bool.{eqb-true, eqb-false, ltb-true, ltb-false}
use Rattle.std.proofs.lemmas.List.{get_or_append_left, get_or_default, get_or-set_same, get_or-set_other}
use Rattle.std.proofs.lemmas.List.Sorted.{All-permutation, Contains-permutation, length_permutation}
use Rattle.lms_ots.specs.Orders.{chain_in, IsOrder}
use Rattle.lms_ots.specs.Walks.{IsTaken}

-- what is sorted is an order where each number ends in its place's
pub sorted-order : (keys sorted rest : List ℕ) (count : ℕ) → length keys ≡ count → count ≤ 65536
    → ((i : ℕ) → i < count → slice_index keys i % 65536 ≡ i) → IsPermutation keys sorted
    → IsOrder (sorted ++ rest) count
sorted-order keys sorted rest count long few ends moved =
    let same : length sorted ≡ count = length_permutation keys sorted moved ∙ long in
    let small : All (λ x. x % 65536 < count) sorted =
    All-permutation (λ x. x % 65536 < count) keys sorted moved
    (λ i d h.
    let at : i < count = omega (arith, long, h) in
    let end : get_or keys i d % 65536 ≡ i = ap (λ x. x % 65536) (get_or_default keys i d 0 h) ∙ ends i at in
    omega (arith, at, end)) in
    let front : (m : ℕ) → m < count → slice_index (sorted ++ rest) m ≡ slice_index sorted m =
    λ m lt. get_or_append_left sorted rest 0 m (omega (arith, lt, same)) in
    record {
      within = λ m lt. subst (λ x. x % 65536 < count) (sym (front m lt)) (small m 0 (omega (arith, lt, same)));
      each = λ i lt.
          let key = slice_index keys i in
          let found = Contains-permutation keys sorted key moved
          (i, omega (arith, lt, long), get_or_default keys i key 0 (omega (arith, lt, long))) in
          let m = found.0 in
          let at : m < count = omega (arith, found.1, same) in
          (m, at, ap (λ x. x % 65536) (front m at ∙ (get_or_default sorted m 0 key found.1 ∙ found.2)) ∙ ends i lt);
    }

-- numbers stay below where one below is put
pub below-set : (xs : List ℕ) (most : ℕ → ℕ) (c x : ℕ) → c < length xs → x ≤ most c
    → (i : ℕ) → slice_index xs i ≤ most i → slice_index (set xs c x) i ≤ most i
below-set xs most c x lt right i held = by (eqb i c) refl
  where
    by : (b : Bool) → eqb i c ≡ b → slice_index (set xs c x) i ≤ most i
    by true e =
        let same : i ≡ c = eqb-true i c e in
        let here : slice_index (set xs c x) i ≡ x =
        ap (λ k. slice_index (set xs c x) k) same ∙ get_or-set_same xs c x 0 lt in
        let there : most i ≡ most c = ap most same in
        omega (arith, here, there, right)
    by false e =
        let here : slice_index (set xs c x) i ≡ slice_index xs i = get_or-set_other xs c i x 0 (eqb-false i c e) in
        omega (arith, here, held)

-- those of the first chains of a list come to what they are to be, with the next one
pub come-next : (xs : List ℕ) (f : ℕ → ℕ) (chains : List ℕ) (n c x : ℕ)
    → c < length xs → c ≡ slice_index chains n → x ≡ f c
    → ((j : ℕ) → j < n → slice_index xs (slice_index chains j) ≡ f (slice_index chains j))
    → (j : ℕ) → j < n + 1 → slice_index (set xs c x) (slice_index chains j) ≡ f (slice_index chains j)
come-next xs f chains n c x lt at right so_far j below = by (eqb (slice_index chains j) c) refl
  where
    by : (b : Bool) → eqb (slice_index chains j) c ≡ b
        → slice_index (set xs c x) (slice_index chains j) ≡ f (slice_index chains j)
    by true e =
        let same : slice_index chains j ≡ c = eqb-true (slice_index chains j) c e in
        ap (λ i. slice_index (set xs c x) i) same ∙ (get_or-set_same xs c x 0 lt ∙ (right ∙ ap f (sym same)))
    by false e =
        let other = eqb-false (slice_index chains j) c e in
        get_or-set_other xs c (slice_index chains j) x 0 other ∙ so_far j (before (ltb j n) refl)
      where
        before : (b : Bool) → ltb j n ≡ b → j < n
        before true is = ltb-true j n is
        before false is =
            let last : j ≡ n = omega (arith, below, ltb-false j n is) in
            absurd (eqb-false (slice_index chains j) c e (ap (slice_index chains) last ∙ sym at))

-- values that are right for their numbers stay right where one is put that is right for its own
pub right-set : (values : List (List ℕ)) (numbers : List ℕ) (f : ℕ → ℕ → List ℕ) (c n : ℕ) (v : List ℕ)
    → c < length values → c < length numbers → v ≡ f c n
    → (i : ℕ) → get_or values i [] ≡ f i (slice_index numbers i)
    → get_or (set values c v) i [] ≡ f i (slice_index (set numbers c n) i)
right-set values numbers f c n v lt below right i held = by (eqb i c) refl
  where
    by : (b : Bool) → eqb i c ≡ b → get_or (set values c v) i [] ≡ f i (slice_index (set numbers c n) i)
    by true e =
        let same : i ≡ c = eqb-true i c e in
        let number : slice_index (set numbers c n) i ≡ n =
        ap (λ k. slice_index (set numbers c n) k) same ∙ get_or-set_same numbers c n 0 below in
        ap (λ k. get_or (set values c v) k []) same
        ∙ (get_or-set_same values c v [] lt ∙ (right ∙ ap₂ f (sym same) (sym number)))
    by false e =
        let number : slice_index (set numbers c n) i ≡ slice_index numbers i =
        get_or-set_other numbers c i n 0 (eqb-false i c e) in
        get_or-set_other values c i v [] (eqb-false i c e) ∙ (held ∙ ap (f i) (sym number))

-- what is taken stays so where fewer steps are left
pub taken-fewer : (order chains left fewer : List ℕ) (m : ℕ) → ((i : ℕ) → slice_index fewer i ≤ slice_index left i)
    → IsTaken order chains left m → IsTaken order chains fewer m
taken-fewer order chains left fewer m less (inl ended) = inl (omega (arith, less (chain_in order m), ended))
taken-fewer order chains left fewer m less (inr lane) = inr lane

-- no steps are left at a place that is taken, once none are left in the lanes
pub none-left : (order chains left : List ℕ) (m : ℕ)
    → ((k : ℕ) → k < 8 → slice_index left (slice_index chains k) ≡ 0)
    → IsTaken order chains left m → slice_index left (chain_in order m) ≡ 0
none-left order chains left m done (inl ended) = ended
none-left order chains left m done (inr (k, at, same)) = ap (slice_index left) (sym same) ∙ done k at
