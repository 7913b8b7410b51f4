-- Each step of the cell keeps the rule.
use Rattle.std.proofs.Common.{◌≡◌, ◌≢◌, ℕ, zero, suc, ◌≤◌, ◌<◌, min, max, Bool, true, false, List, [], ◌∷◌, set, map}
use Rattle.std.proofs.Common.{length, None, Some, ◌&&◌, if◌then◌else◌, nat_eq, refl, sym, ap, ◌∙◌, subst, ⊎_elim, inl}
use Rattle.std.proofs.Common.{inr, arith}
use Rattle.std.proofs.lemmas.Map.Views.{exact_unsigned_eq}
use Rattle.std.proofs.lemmas.List.{map-set}
use Rattle.std.proofs.lemmas.List.Elements.{All-head}
use native.Mathlib.Decide.{dec_lt}
use mathlib.Core.Logic.{dite}
use mathlib.Core.Option.{some, some-ne-none, some-injective}
use lib.ListN.{get_elem?}
use Rattle.lms_spec.specs.Bytes.{below}
use Rattle.atomic_table.proofs.Lists.{at_set, at_map, set_again}
use Rattle.crossbeam_utils.specs.Register.{Turns}
use Rattle.lms_pool.specs.declared.call_log.Call.{Call}
use Rattle.lms_pool.specs.declared.call_log.Call.TheVariants.{Look}
use Rattle.lms_pool.specs.declared.call_log.Hand.{Hand}
use Rattle.lms_pool.specs.CallLog.{turn}
use Rattle.lms_pool.specs.Rule.{View as Hands, Agree, Fits, Makes, hand, new_hands}
use Rattle.lms_pool.proofs.Steps.{made}
use Rattle.lms_pool.proofs.Deals.{starts}
use Rattle.lms_cell_pool.specs.declared.rule.Known.{Known}
use Rattle.lms_cell_pool.specs.declared.rule.Places.{Places}
use Rattle.lms_cell_pool.specs.Rule.{View, known, seats_in, hands_in, hand_in, Filled, CellKept, SeatTells, MakesAt}
use Rattle.lms_cell_pool.specs.Rule.{called_look, changed, filled, found, peeked}

abbrev blank : View
blank = None

not_blank : (k : Known) → blank ≡ Some k → ⊥
not_blank k e = cc

no_seat : (id : ℕ) (k : Known) → get_elem? (blank ∷ []) id ≡ some (Some k) → ⊥
no_seat zero k e = not_blank k (some-injective _ _ e)
no_seat (suc id) k e = some-ne-none _ (sym e)

-- where a token knows something, the pool was filled
pub is_filled : (x : Places) (views : List View) (id : ℕ) (k : Known) → get_elem? views id ≡ some (Some k)
    → CellKept x views → Filled x views
is_filled x views id k at (inl e) =
    absurd (no_seat id k (subst (λ (vs : List View). get_elem? vs id ≡ some (Some k)) e at))
is_filled x views id k at (inr f) = f

-- a call of a token that has one hand, which takes the cell from x to y
stepped : (x : Places) (views : List View) (id n : ℕ) (h : Hand) → get_elem? views id ≡ some (Some (known n (h ∷ [])))
    → Filled x views → (c : Call) (y : Places)
    → y.len ≡ x.len → y.seats ≡ x.seats → (turn h.len (min x.taken h.len) c).1 ≡ min y.taken h.len
    → y.taken ≤ max x.taken h.len
    → (k : Hand) × CellKept y (set views id (Some (known n (k ∷ [])))) × MakesAt c x h k
stepped x views id n h at F c y e1 e2 effect small =
    let K = F.agree in
    let there = at_map hands_in views id (Some (known n (h ∷ []))) at in
    let long = (All-head (Fits x.len K.log) h [] (K.fits id (h ∷ []) there)).long in
    let at' = there ∙ ap (λ (len : ℕ). some (hand h.number len h.log ∷ [])) long in
    let effect' = subst (λ (len : ℕ). (turn len (min x.taken len) c).1 ≡ min y.taken len) long effect in
    let t = made x.len x.seats (map hands_in views) id h.number h.log at' x.taken K c y.taken effect'
    (inl (omega (arith, long, small))) in (
      t.0,
      inr (record {
        knows = λ j v e. ⊎_elim
            (λ (s : (j ≡ id) × (Some (known n (t.0 ∷ [])) ≡ v)).
            subst (λ (w : View). w ≡ Some (known (seats_in w) (hands_in w))) s.1 refl)
            (λ (s : (j ≢ id) × (get_elem? views j ≡ some v)). F.knows j v s.1)
            (at_set views id j (Some (known n (t.0 ∷ []))) v e);
        count_known = λ j v e l. ⊎_elim
            (λ (s : (j ≡ id) × (Some (known n (t.0 ∷ [])) ≡ v)). sym (ap seats_in s.1)
            ∙ F.count_known id (Some (known n (h ∷ []))) at (omega arith) ∙ sym e2)
            (λ (s : (j ≢ id) × (get_elem? views j ≡ some v)). F.count_known j v s.1 l ∙ sym e2)
            (at_set views id j (Some (known n (t.0 ∷ []))) v e);
        agree = subst (λ (p : ℕ × ℕ × List Hands). Agree p.0 p.1 y.taken p.2)
            (λ i. (sym e1 i, sym e2 i, sym (map-set hands_in views id (Some (known n (t.0 ∷ [])))) i)) t.1;
      }),
      subst (λ (len : ℕ). Makes c (turn len (min x.taken len) c).0 (hand h.number len h.log) t.0) (sym long) t.2,
    )

tells : (P : Hand → Hand → Type 0) (v : View) (n : ℕ) (h k : Hand) → v ≡ Some (known n (h ∷ [])) → P h k
    → SeatTells P v (Some (known n (k ∷ [])))
tells P v n h k e p = λ n' h' e'. (
  k,
  ap (λ (z : ℕ). Some (known z (k ∷ []))) (ap seats_in (sym e ∙ e')),
  subst (λ (z : Hand). P z k) (ap hand_in (sym e ∙ e')) p,
)

pub looks : (id : ℕ) (v : View) (n : ℕ) (h : Hand) → v ≡ Some (known n (h ∷ []))
    → Turns CellKept id v (λ x. x) called_look
looks id v n h e x views kept at =
    let at' = at ∙ ap some e in
    let t = stepped x views id n h at' (is_filled x views id (known n (h ∷ [])) at' kept) Look x refl refl refl
    (omega arith) in
    (Some (known n (t.0 ∷ [])), t.1, tells (MakesAt Look x) v n h t.0 e t.2)

abbrev Peeks : Call → Places → Hand → Hand → Type 0
Peeks c x h k = (x.taken < h.len → k ≡ h) × (h.len ≤ x.taken → MakesAt c x h k)

-- the load of a call that takes effect where no place is left
pub peeks : (id : ℕ) (v : View) (n : ℕ) (h : Hand) (c : Call) → v ≡ Some (known n (h ∷ []))
    → ((m : ℕ) → h.len ≤ m → (turn h.len (min m h.len) c).1 ≡ min m h.len) → Turns CellKept id v (λ x. x) (peeked c)
peeks id v n h c e end x views kept at = dite (dec_lt x.taken h.len)
    (λ l. (
      Some (known n (h ∷ [])),
      subst (CellKept x) (sym (set_again views id (Some (known n (h ∷ []))) (at ∙ ap some e))) kept,
      tells (Peeks c x) v n h h e ((λ _. refl), (λ le. absurd (omega arith))),
    ))
    (λ over.
    let at' = at ∙ ap some e in
    let t = stepped x views id n h at' (is_filled x views id (known n (h ∷ [])) at' kept) c x refl refl
    (end x.taken (omega arith)) (omega arith) in
    (Some (known n (t.0 ∷ [])), t.1, tells (Peeks c x) v n h t.0 e ((λ l. absurd (over l)), (λ _. t.2))))

abbrev Changes : Call → Places → Places → Hand → Hand → Type 0
Changes c x y h k = (y ≡ x → k ≡ h) × (x.taken < y.taken → MakesAt c x h k)

-- the exchange of a call, from `seen` to `new`, where the cell still holds `seen`
pub changes : (id : ℕ) (v : View) (n : ℕ) (h : Hand) (c : Call) (is_seen : Places → Bool) (seen new : Places)
    → v ≡ Some (known n (h ∷ []))
    → ((x : Places) → is_seen x ≡ true → x ≡ seen) → new.len ≡ seen.len → new.seats ≡ seen.seats
    → seen.taken < new.taken
    → (turn h.len (min seen.taken h.len) c).1 ≡ min new.taken h.len → new.taken ≤ max seen.taken h.len
    → Turns CellKept id v (λ x. if is_seen x then new else x) (changed c)
changes id v n h c is_seen seen new e is e1 e2 up effect small x views kept at = go (is_seen x) refl
  where
    at' : get_elem? views id ≡ some (Some (known n (h ∷ [])))
    at' = at ∙ ap some e

    go : (b : Bool) → is_seen x ≡ b → (w : View) × CellKept (if b then new else x) (set views id w)
        × changed c v x (if b then new else x) w
    go true q =
        let same : x ≡ seen = is x q in
        let t = subst (λ (z : Places). new.len ≡ z.len → new.seats ≡ z.seats
        → (turn h.len (min z.taken h.len) c).1 ≡ min new.taken h.len → new.taken ≤ max z.taken h.len
        → (k : Hand) × CellKept new (set views id (Some (known n (k ∷ [])))) × MakesAt c x h k)
        same (stepped x views id n h at' (is_filled x views id (known n (h ∷ [])) at' kept) c new) e1 e2 effect small in
        let apart : new ≡ x → ⊥ = λ back. omega (arith, ap (λ (z : Places). z.taken) (back ∙ same), up) in (
          Some (known n (t.0 ∷ [])),
          t.1,
          tells (Changes c x new) v n h t.0 e ((λ back. absurd (apart back)), (λ _. t.2)),
        )
    go false q = (
      Some (known n (h ∷ [])),
      subst (CellKept x) (sym (set_again views id (Some (known n (h ∷ []))) at')) kept,
      tells (Changes c x x) v n h h e ((λ _. refl), (λ l. absurd (omega arith))),
    )

-- `==` of two values of the cell
abbrev pub is_same : Places → Places → Bool
is_same x y = nat_eq x.taken y.taken && (nat_eq x.len y.len && nat_eq x.seats y.seats)

both : (a b : Bool) → (a && b) ≡ true → (a ≡ true) × (b ≡ true)
both true b e = (refl, e)
both false b e = absurd (cc)

pub same_places : (x y : Places) → is_same x y ≡ true → x ≡ y
same_places x y e =
    let first = both (nat_eq x.taken y.taken) (nat_eq x.len y.len && nat_eq x.seats y.seats) e in
    let rest = both (nat_eq x.len y.len) (nat_eq x.seats y.seats) first.1 in
    let taken : x.taken ≡ y.taken = exact_unsigned_eq _ _ first.0 in
    let len : x.len ≡ y.len = exact_unsigned_eq _ _ rest.0 in
    let seats : x.seats ≡ y.seats = exact_unsigned_eq _ _ rest.1 in
    λ i. record { taken = taken i; len = len i; seats = seats i }

-- the fill, by a token that knows nothing yet
pub fills : (id : ℕ) (v : View) (y : Places) → v ≡ None → y.taken ≡ 0 → y.len ≤ 1024 → y.seats ≤ 64
    → Turns CellKept id v (λ _. y) filled
fills id v y e none short few x views kept at = (all, ⊎_elim first later kept, refl)
  where
    all : View
    all = Some (known y.seats (new_hands y.len (below y.seats)))

    goes : (j : ℕ) → get_elem? (blank ∷ []) j ≡ some v → CellKept y (set (blank ∷ []) j all)
    goes zero g = inr (record {
      knows = whole;
      count_known = every;
      agree = subst (λ (n : ℕ). Agree y.len y.seats n (map hands_in (all ∷ []))) (sym none)
          (starts y.len y.seats short few);
    })
      where
        whole : (j : ℕ) (w : View) → get_elem? (all ∷ []) j ≡ some w → w ≡ Some (known (seats_in w) (hands_in w))
        whole zero w q = subst (λ (z : View). z ≡ Some (known (seats_in z) (hands_in z))) (some-injective _ _ q) refl
        whole (suc j) w q = absurd (some-ne-none w (sym q))

        every : (j : ℕ) (w : View) → get_elem? (all ∷ []) j ≡ some w → 0 < length (hands_in w) → seats_in w ≡ y.seats
        every zero w q l = sym (ap seats_in (some-injective _ _ q))
        every (suc j) w q l = absurd (some-ne-none w (sym q))
    goes (suc j) g = absurd (some-ne-none v (sym g))

    first : views ≡ blank ∷ [] → CellKept y (set views id all)
    first is = subst (λ (vs : List View). CellKept y (set vs id all)) (sym is)
        (goes id (subst (λ (vs : List View). get_elem? vs id ≡ some v) is at))

    later : Filled x views → CellKept y (set views id all)
    later F = absurd (not_blank (known (seats_in v) (hands_in v)) (sym e ∙ F.knows id v at))

-- the last load, after which the rule is known to have held
pub finds : (id : ℕ) (v : View) → Turns CellKept id v (λ x. x) found
finds id v x views kept at = (v, subst (CellKept x) (sym (set_again views id v at)) kept, (views, id, at, kept))
