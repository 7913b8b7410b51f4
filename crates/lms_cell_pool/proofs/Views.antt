-- Where the views of tokens are split and joined.
use Rattle.std.proofs.Common.{◌≡◌, ◌≢◌, ℕ, ◌≤◌, ◌<◌, List, [], ◌∷◌, ◌++◌, length, map, set, All, Some, refl, sym, ap}
use Rattle.std.proofs.Common.{◌∙◌, subst, ⊎_elim, inr, arith}
use Rattle.std.proofs.lemmas.List.{map-append, map-set}
use Rattle.std.proofs.lemmas.List.Elements.{All-nil}
use mathlib.Core.Option.{some}
use lib.ListN.{get_elem?}
use Rattle.atomic_table.proofs.Lists.{at_snoc, at_set, at_map}
use Rattle.crossbeam_utils.specs.Register.{Forks, Merges}
use Rattle.lms_pool.specs.Rule.{View as Hands, Agree, Fits, first_hand, other_hands, total}
use Rattle.lms_pool.proofs.Weights.{total-append, total-set}
use Rattle.lms_pool.proofs.Deals.{joined, parted, same_hands}
use Rattle.lms_cell_pool.specs.declared.rule.Known.{Known}
use Rattle.lms_cell_pool.specs.declared.rule.Places.{Places}
use Rattle.lms_cell_pool.specs.Rule.{View, known, seats_in, hands_in, CellKept, Filled, first_view, handed_over, nobody}
use Rattle.lms_cell_pool.specs.Rule.{other_views, together}
use Rattle.lms_cell_pool.proofs.Steps.{is_filled}

abbrev IsFull : View → Type 0
IsFull v = v ≡ Some (known (seats_in v) (hands_in v))

-- a token's view becomes another one, and a new token has one more
module _ (x : Places) (views : List View) (F : Filled x views) (id : ℕ) (v left right : View)
    (at : get_elem? views id ≡ some v)
    (full_left : IsFull left) (full_right : IsFull right)
    (wide_left : 0 < length (hands_in left) → seats_in left ≡ x.seats)
    (wide_right : 0 < length (hands_in right) → seats_in right ≡ x.seats)
    (agree : Agree x.len x.seats x.taken (set (map hands_in views) id (hands_in left) ++ hands_in right ∷ [])) where
  cut : Filled x (set views id left ++ right ∷ [])
  cut = record {
    knows = λ j u q. ⊎_elim
        (λ was. ⊎_elim
        (λ (t : (j ≡ id) × (left ≡ u)). subst IsFull t.1 full_left)
        (λ (t : (j ≢ id) × (get_elem? views j ≡ some u)). F.knows j u t.1)
        (at_set views id j left u was))
        (λ (same : right ≡ u). subst IsFull same full_right)
        (at_snoc (set views id left) right u j q);
    count_known = λ j u q l. ⊎_elim
        (λ was. ⊎_elim
        (λ (t : (j ≡ id) × (left ≡ u)).
        subst (λ (w : View). 0 < length (hands_in w) → seats_in w ≡ x.seats) t.1 wide_left l)
        (λ (t : (j ≢ id) × (get_elem? views j ≡ some u)). F.count_known j u t.1 l)
        (at_set views id j left u was))
        (λ (same : right ≡ u). subst (λ (w : View). 0 < length (hands_in w) → seats_in w ≡ x.seats) same wide_right l)
        (at_snoc (set views id left) right u j q);
    agree = subst (Agree x.len x.seats x.taken) (sym (map-append hands_in (set views id left) (right ∷ [])
        ∙ ap (λ (l : List Hands). l ++ hands_in right ∷ []) (map-set hands_in views id left))) agree;
  }

parts_more : (v : Hands) → (length (other_hands v) ≤ length v) × (length (first_hand v) ≤ length v)
parts_more [] = (omega arith, omega arith)
parts_more (h ∷ hs) = (omega arith, omega arith)

-- the first hand may go to a token of its own
pub forks : (id : ℕ) (v : View) (k : Known) → v ≡ Some k → Forks CellKept id v (other_views v) (first_view v)
forks id v k e x views kept at =
    let F = is_filled x views id k (at ∙ ap some e) kept in
    let parts = parts_more (hands_in v) in
    inr (cut x views F id v (other_views v) (first_view v) at refl refl
    (λ l. F.count_known id v at (omega (arith, parts.0, l)))
    (λ l. F.count_known id v at (omega (arith, parts.1, l)))
    (parted x.len x.seats x.taken id (hands_in v) (map hands_in views) F.agree (at_map hands_in views id v at)))

-- all hands may go to a new token
pub hands_over : (id : ℕ) (v : View) (k : Known) → v ≡ Some k → Forks CellKept id v (handed_over v) v
hands_over id v k e x views kept at =
    let F = is_filled x views id k (at ∙ ap some e) kept in
    let K = F.agree in
    let m : List Hands = map hands_in views in
    let there = at_map hands_in views id v at in
    let now = same_hands x.len x.seats x.taken m (set m id [] ++ hands_in v ∷ []) K
    (λ f. omega (
      arith,
      total-append (total f) (set m id []) (hands_in v ∷ []),
      total-set (total f) m id (hands_in v) [] there,
    ))
    (λ j u q. ⊎_elim
    (λ was. ⊎_elim
    (λ (t : (j ≡ id) × ([] ≡ u)). subst (All (Fits x.len K.log)) t.1 (All-nil (Fits x.len K.log)))
    (λ (t : (j ≢ id) × (get_elem? m j ≡ some u)). K.fits j u t.1)
    (at_set m id j [] u was))
    (λ (same : hands_in v ≡ u). subst (All (Fits x.len K.log)) same (K.fits id (hands_in v) there))
    (at_snoc (set m id []) (hands_in v) u j q)) in
    inr (cut x views F id v nobody v at refl (F.knows id v at) (λ l. absurd (omega arith)) (F.count_known id v at) now)

-- the hands of two tokens may come together
pub merges : (id : ℕ) (v : View) (other : ℕ) (w : View) (k : Known) → v ≡ Some k → 0 < length (hands_in v)
    → Merges CellKept id v other w (together v w) nobody
merges id v other w k e some_hand x views kept at apart there =
    let F = is_filled x views id k (at ∙ ap some e) kept in
    let m : List Hands = map hands_in views in
    let there' = subst (λ (l : List Hands). get_elem? l other ≡ some (hands_in w))
    (map-set hands_in views id (together v w)) (at_map hands_in (set views id (together v w)) other w there) in
    let now = joined x.len x.seats x.taken id (hands_in v) other (hands_in w) m F.agree
    (at_map hands_in views id v at) apart there' in
    inr (record {
      knows = λ j u q. ⊎_elim
          (λ (t : (j ≡ other) × (nobody ≡ u)). subst IsFull t.1 refl)
          (λ (t : (j ≢ other) × (get_elem? (set views id (together v w)) j ≡ some u)). ⊎_elim
          (λ (y : (j ≡ id) × (together v w ≡ u)). subst IsFull y.1 refl)
          (λ (y : (j ≢ id) × (get_elem? views j ≡ some u)). F.knows j u y.1)
          (at_set views id j (together v w) u t.1))
          (at_set (set views id (together v w)) other j nobody u q);
      count_known = λ j u q l. ⊎_elim
          (λ (t : (j ≡ other) × (nobody ≡ u)). absurd (omega (arith, ap (λ (z : View). length (hands_in z)) t.1)))
          (λ (t : (j ≢ other) × (get_elem? (set views id (together v w)) j ≡ some u)). ⊎_elim
          (λ (y : (j ≡ id) × (together v w ≡ u)). sym (ap seats_in y.1) ∙ F.count_known id v at some_hand)
          (λ (y : (j ≢ id) × (get_elem? views j ≡ some u)). F.count_known j u y.1 l)
          (at_set views id j (together v w) u t.1))
          (at_set (set views id (together v w)) other j nobody u q);
      agree = subst (Agree x.len x.seats x.taken)
          (sym (map-set hands_in (set views id (together v w)) other nobody
          ∙ ap (λ (l : List Hands). set l other []) (map-set hands_in views id (together v w)))) now;
    })
