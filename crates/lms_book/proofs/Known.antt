-- Whether a range is among those of a history.
use Rattle.std.proofs.lemmas.Bool.{or_left, or_right}
use Rattle.std.proofs.Common.{◌≡◌, ◌⊎◌, inl, inr, ℕ, zero, suc, Bool, true, false, List, [], ◌∷◌, refl, sym, ◌∙◌, ap}
use Rattle.std.proofs.Common.{subst, arith}
use Rattle.std.specs.Prelude.{◌==◌, ◌&&◌, ◌||◌, Contains, IsTrue, ◌↔◌}
use Rattle.std.proofs.lemmas.Bool.Decides.{nat_tests}
use Rattle.lms_hss.specs.declared.key.HssKey.{HssKey as KeyOfCode}
use Rattle.lms_book.specs.declared.history.Entry.{Entry}
use Rattle.lms_book.specs.History.{Range, leases, has_range, range_of}
use Rattle.lms_book.specs.States.{LeaseState, ReservationsState}

same_at : (range r : Range) → ((r.start == range.start) && (r.len == range.len)) ≡ true → r ≡ range
same_at range r is =
    let start : r.start ≡ range.start = grind (arith, nat_tests) in
    let len : r.len ≡ range.len = grind (arith, nat_tests) in
    λ i. record { start = start i; len = len i }

at_same : (range r : Range) → r ≡ range → ((r.start == range.start) && (r.len == range.len)) ≡ true
at_same range r is =
    let start : r.start ≡ range.start = ap (λ (x : Range). x.start) is in
    let len : r.len ≡ range.len = ap (λ (x : Range). x.len) is in
    grind (arith, nat_tests)

either : (b c : Bool) → (b || c) ≡ true → (b ≡ true) ⊎ (c ≡ true)
either true c is = inl refl
either false c is = inr is

pub found : (range : Range) (ranges : List Range) → has_range range ranges ≡ true → Contains ranges range
found range [] is = absurd cc
found range (r ∷ ranges) is = elim (either _ _ is) [
  | inl here ↦ (0, omega arith, same_at range r here)
  | inr there ↦ let at = found range ranges there in (suc at.0, omega (arith, at.1), at.2)
]

pub is_found : (range : Range) (ranges : List Range) → Contains ranges range → has_range range ranges ≡ true
is_found range [] (k, lt, at) = absurd (omega arith)
is_found range (r ∷ ranges) (zero, lt, at) = or_left _ _ (at_same range r at)
is_found range (r ∷ ranges) (suc k, lt, at) =
    or_right ((r.start == range.start) && (r.len == range.len)) _ (is_found range ranges (k, omega arith, at))

abbrev reserved_as : KeyOfCode → ℕ → ℕ → ℕ → List Entry → ReservationsState
reserved_as key base openings burnt history =
    record { key = key; base = base; openings = openings; burnt = burnt; history = history }

abbrev lease_of : KeyOfCode → ℕ → ℕ → LeaseState
lease_of key start len = record { key = key; start = start; len = len }

-- what the two tests of `knows` say
pub knows_is : (key mine : KeyOfCode) (base openings burnt : ℕ) (history : List Entry) (start len : ℕ)
    (reserved : ReservationsState) (lease : LeaseState) (r : Bool)
    → reserved_as key base openings burnt history ≡ reserved → mine ≡ lease.key → start ≡ lease.start → len ≡ lease.len
    → mine ≡ key → r ≡ has_range (range_of start len) (leases base history)
    → IsTrue r
    ↔ ((lease.key ≡ reserved.key) × Contains (leases reserved.base reserved.history) (range_of lease.start lease.len))
knows_is key mine base openings burnt history start len reserved lease r b m s l k is =
    let same : lease_of mine start len ≡ lease = λ i. record { key = m i; start = s i; len = l i } in
    let P : ReservationsState → LeaseState → Type 0 = λ x y. IsTrue r
    ↔ ((y.key ≡ x.key) × Contains (leases x.base x.history) (range_of y.start y.len)) in
    subst (λ (x : ReservationsState). P x lease) b (subst (P (reserved_as key base openings burnt history)) same (
      (λ yes. (k, found (range_of start len) (leases base history) (sym is ∙ yes))),
      (λ both. is ∙ is_found (range_of start len) (leases base history) both.1),
    ))
