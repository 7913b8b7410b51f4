-- Laws of call logs.
use Rattle.std.proofs.Common.{◌≡◌, ℕ, ◌+◌, ◌-◌, ◌≤◌, ◌<◌, min, Bool, true, false, List, [], ◌∷◌, ◌++◌, length, nat_lt}
use Rattle.std.proofs.Common.{nat_eq, if◌then◌else◌, refl, sym, ap, ◌∙◌, subst, arith, length-append, append-nil}
use Rattle.std.proofs.Common.{le_trans, le_refl, cond}
use Rattle.std.specs.List.{range_with_len}
use Rattle.std.proofs.lemmas.Bool.Decides.{nat_tests}
use Rattle.std.proofs.lemmas.List.Elements.{filter-append}
use Rattle.std.proofs.lemmas.List.Sums.{sum_by-cons, sum_by-append}
use Rattle.lms_pool.specs.declared.call_log.Call.{Call}
use Rattle.lms_pool.specs.declared.call_log.Call.TheVariants.{Claim, Look, Stop}
use Rattle.lms_pool.specs.declared.call_log.Reply.{Reply}
use Rattle.lms_pool.specs.declared.call_log.Reply.TheVariants.{Place, Ended}
use Rattle.lms_pool.specs.declared.call_log.LoggedCall.{LoggedCall}
use Rattle.lms_pool.specs.CallLog.{turn, IsLegalFrom, IsLegal, state_after, taken, calls_of, Extends, place_in}
use Rattle.lms_pool.specs.CallLog.{places_in, stopped_by, stopped_in}
use Rattle.lms_pool.specs.Laws.{PlacesAreClaimedOnce}

-- a claim where places are left, and where none is
pub claim_next : (len n : ℕ) → n < len → turn len n Claim ≡ (Place n, n + 1)
claim_next len n l = let t : nat_lt n len ≡ true = grind (arith, nat_tests) in rw t

pub claim_end : (len n : ℕ) → len ≤ n → turn len n Claim ≡ (Ended, n)
claim_end len n le = let t : nat_lt n len ≡ false = grind (arith, nat_tests) in rw t

-- a claim that finds no place leaves the count
pub claim_stays : (len n : ℕ) → len ≤ n → (turn len (min n len) Claim).1 ≡ min n len
claim_stays len n le = ap (λ (t : Reply × ℕ). t.1) (claim_end len (min n len) (omega arith))

-- another one adds 1
pub claim_rises : (len n : ℕ) → n < len → (turn len (min n len) Claim).1 ≡ min (n + 1) len
claim_rises len n l = ap (λ (t : Reply × ℕ). t.1) (claim_next len (min n len) (omega arith)) ∙ omega arith

pub state-append : (len n : ℕ) (xs ys : List LoggedCall)
    → state_after len n (xs ++ ys) ≡ state_after len (state_after len n xs) ys
state-append len n [] ys = refl
state-append len n (x ∷ xs) ys = state-append len (turn len n x.call).1 xs ys

pub legal-append : (len n : ℕ) (xs ys : List LoggedCall) → IsLegalFrom len n xs
    → IsLegalFrom len (state_after len n xs) ys → IsLegalFrom len n (xs ++ ys)
legal-append len n [] ys p q = q
legal-append len n (x ∷ xs) ys p q = (p.0, legal-append len (turn len n x.call).1 xs ys p.1 q)

-- a claim in the state n, by the test whether places are left
abbrev tried : Bool → ℕ → Reply × ℕ
tried b n = if b then (Place n, n + 1) else (Ended, n)

tried_within : (b : Bool) (len n : ℕ) → nat_lt n len ≡ b → n ≤ len → (n ≤ (tried b n).1) × ((tried b n).1 ≤ len)
tried_within true len n e h = let lt : n < len = grind (arith, nat_tests) in (omega arith, omega arith)
tried_within false len n e h = (omega arith, h)

-- no call gives a place back, and no state is past the length
turn_within : (len n : ℕ) (c : Call) → n ≤ len → (n ≤ (turn len n c).1) × ((turn len n c).1 ≤ len)
turn_within len n Claim h = tried_within (nat_lt n len) len n refl h
turn_within len n Look h = (le_refl n, h)
turn_within len n Stop h = (h, le_refl len)

after_within : (len n : ℕ) (xs : List LoggedCall) → n ≤ len → (n ≤ state_after len n xs) × (state_after len n xs ≤ len)
after_within len n [] h = (le_refl n, h)
after_within len n (x ∷ xs) h =
    let one = turn_within len n x.call h in
    let more = after_within len (turn len n x.call).1 xs one.1 in
    (le_trans one.0 more.0, more.1)

pub taken_within : (len : ℕ) (log : List LoggedCall) → taken len log ≤ len
taken_within len log = (after_within len 0 log (omega arith)).1

pub taken_more : (len : ℕ) (front rest : List LoggedCall) → taken len front ≤ taken len (front ++ rest)
taken_more len front rest = subst (λ (n : ℕ). taken len front ≤ n) (sym (state-append len 0 front rest))
    (after_within len (taken len front) rest (taken_within len front)).0

none_after : (xs ys : List LoggedCall) → xs ++ ys ≡ xs → ys ≡ []
none_after xs [] e = refl
none_after xs (y ∷ ys) e = absurd (omega (arith, ap (length {A = LoggedCall}) e, length-append xs (y ∷ ys)))

-- the calls of a seat are all in the beginning, so none is in the rest
pub calls_rest : (x : ℕ) (front rest : List LoggedCall) → calls_of x (front ++ rest) ≡ calls_of x front
    → calls_of x rest ≡ []
calls_rest x front rest e = none_after (calls_of x front) (calls_of x rest)
    (sym (filter-append (λ (y : LoggedCall). nat_eq y.seat x) front rest) ∙ e)

abbrev pub burnt : LoggedCall → ℕ
burnt e = stopped_by e.call e.reply

-- what a call claims and stops is what the state gains
tried_adds : (b : Bool) (n : ℕ) → n + length (place_in (tried b n).0) + 0 ≡ (tried b n).1
tried_adds true n = omega arith
tried_adds false n = omega arith

turn_adds : (len n : ℕ) (c : Call) → n ≤ len
    → n + length (place_in (turn len n c).0) + stopped_by c (turn len n c).0 ≡ (turn len n c).1
turn_adds len n Claim h = tried_adds (nat_lt n len) n
turn_adds len n Look h = omega arith
turn_adds len n Stop h = omega arith

-- the state of a legal call log is the places that it claimed and stopped
pub tally : (len n : ℕ) (log : List LoggedCall) → n ≤ len → IsLegalFrom len n log
    → n + length (places_in log) + stopped_in log ≡ state_after len n log
tally len n [] h l = omega arith
tally len n (e ∷ es) h l =
    let one = subst (λ (r : Reply). n + length (place_in r) + stopped_by e.call r ≡ (turn len n e.call).1) (sym l.0)
    (turn_adds len n e.call h) in
    let rest = tally len (turn len n e.call).1 es (turn_within len n e.call h).1 l.1 in
    omega (arith, rest, one, sum_by-cons burnt e es, length-append (place_in e.reply) (places_in es))

-- the first call's place is before the places of the calls after it
module _ (len n : ℕ) (es : List LoggedCall) where
  abbrev InOrder : Reply × ℕ → Type 0
  InOrder t = places_in es ≡ range_with_len t.1 (length (places_in es)) → t.1 + length (places_in es) ≤ len
      → place_in t.0 ++ places_in es ≡ range_with_len n (length (place_in t.0 ++ places_in es))

  tried_in_order : (b : Bool) → InOrder (tried b n)
  tried_in_order true rest few = ap (λ places. n ∷ places) rest
  tried_in_order false rest few = rest

  turn_in_order : (c : Call) → InOrder (turn len n c)
  turn_in_order Claim rest few = tried_in_order (nat_lt n len) rest few
  turn_in_order Look rest few = rest
  turn_in_order Stop rest few =
      let none : length (places_in es) ≡ 0 = omega (arith, few) in
      rest ∙ ap (range_with_len len) none ∙ sym (ap (range_with_len n) none)

-- the places from n on are claimed in their order
pub in_order : (len n : ℕ) (log : List LoggedCall) → n ≤ len → IsLegalFrom len n log
    → places_in log ≡ range_with_len n (length (places_in log))
in_order len n [] h l = refl
in_order len n (e ∷ es) h l =
    let next = (turn len n e.call).1 in
    let small = (turn_within len n e.call h).1 in
    let few : next + length (places_in es) ≤ len =
    omega (arith, tally len next es small l.1, (after_within len next es small).1) in
    subst (λ (r : Reply). place_in r ++ places_in es ≡ range_with_len n (length (place_in r ++ places_in es))) (sym l.0)
    (turn_in_order len n es e.call (in_order len next es small l.1) few)

-- claimed, stopped and left are all places
pub all_places : (len : ℕ) (log : List LoggedCall) → IsLegal len log
    → length (places_in log) + stopped_in log + (len - taken len log) ≡ len
all_places len log l = omega (arith, tally len 0 log (omega arith) l, taken_within len log)

pub once_each : PlacesAreClaimedOnce
once_each len log l = (in_order len 0 log (omega arith) l, all_places len log l)

pub stopped_part : (x : ℕ) (log : List LoggedCall) → stopped_in (calls_of x log) ≤ stopped_in log
stopped_part x [] = omega arith
stopped_part x (e ∷ es) =
    let h = part_le (nat_eq e.seat x) e (calls_of x es) es (stopped_part x es) in
    omega (arith, h, sum_by-cons burnt e es)
  where
    part_le : (b : Bool) (e : LoggedCall) (es rest : List LoggedCall) → stopped_in es ≤ stopped_in rest
        → stopped_in (cond b (e ∷ es) es) ≤ burnt e + stopped_in rest
    part_le true e es rest h = omega (arith, sum_by-cons burnt e es)
    part_le false e es rest h = omega arith

pub own_call : (e : LoggedCall) → calls_of e.seat (e ∷ []) ≡ e ∷ []
own_call e = let t : nat_eq e.seat e.seat ≡ true = grind (arith, nat_tests) in rw t

-- a seat's own calls after one more
calls_after : (len : ℕ) (old : List LoggedCall) (e : LoggedCall) (new : List LoggedCall) → Extends len old e new
    → calls_of e.seat new ≡ calls_of e.seat old ++ e ∷ []
calls_after len old e new ext =
    let p : LoggedCall → Bool = λ (y : LoggedCall). nat_eq y.seat e.seat in
    let between = ext.1.0 in
    ap (calls_of e.seat) ext.1.1
    ∙ filter-append p (old ++ between) (e ∷ [])
    ∙ ap (λ (l : List LoggedCall). l ++ calls_of e.seat (e ∷ []))
    (filter-append p old between ∙ ap (λ (l : List LoggedCall). calls_of e.seat old ++ l) ext.1.2
    ∙ append-nil (calls_of e.seat old))
    ∙ ap (λ (l : List LoggedCall). calls_of e.seat old ++ l) (own_call e)

pub stopped_after : (len : ℕ) (old : List LoggedCall) (e : LoggedCall) (new : List LoggedCall) → Extends len old e new
    → stopped_in (calls_of e.seat new) ≡ stopped_in (calls_of e.seat old) + burnt e
stopped_after len old e new ext = ap stopped_in (calls_after len old e new ext)
    ∙ sum_by-append burnt (calls_of e.seat old) (e ∷ []) ∙ omega (arith, sum_by-cons burnt e [])

-- no seat has stopped more places than there are
pub stopped_within : (len x : ℕ) (log : List LoggedCall) → IsLegal len log → stopped_in (calls_of x log) ≤ len
stopped_within len x log l = omega (arith, stopped_part x log, tally len 0 log (omega arith) l, taken_within len log)
