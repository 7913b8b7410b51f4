-- A book's leases are disjoint and below what a crash could leave, and a reservation keeps them so.
use Rattle.std.proofs.Common.{◌≡◌, ℕ, ◌+◌, ◌≤◌, List, [], ◌∷◌, ◌++◌, sym, subst, arith}
use Rattle.std.specs.Prelude.{AllPairs, Result, Ok, Err}
use Rattle.std.specs.List.{AllByRecursion}
use Rattle.lms_book.specs.declared.history.Entry.{Entry}
use Rattle.lms_book.specs.declared.history.Entry.TheVariants.{Given, Burnt}
use Rattle.lms_book.specs.declared.fault.BookFault.{BookFault}
use Rattle.lms_book.specs.declared.fault.BookFault.TheVariants.{Exhausted, OutOfMemory, Store}
use Rattle.lms_image.specs.Image.{HasImage}
use Rattle.lms_book.specs.History.{Range, range_of, end, counter_of, burnt_after, leases}
use Rattle.lms_book.specs.Stops.{MayLeave}
use Rattle.lms_book.specs.States.{BookState, LeaseState, ReservationsState, reservations_of, IsSameOpening, IsSafe}
use Rattle.lms_book.specs.Books.{counter, burnt_now, Reserves, Follows, IsInOrder, ReservesInOrder}
use Rattle.lms_book.proofs.Histories.{counter-push, burnt-push, recount, next_counted, safe_given, safe_burnt}
use Rattle.lms_book.proofs.Leaving.{leaves_written, leaves_failed}
use Rattle.lms_book.proofs.Overlap.{pairs_cons}

starts_from : (first : Range) (base : ℕ) (history : List Entry) → end first ≤ base
    → AllByRecursion (Follows first) (leases base history)
starts_from first base [] le = tt
starts_from first base (Given len ∷ history) le = (le, starts_from first (base + len) history (omega arith))
starts_from first base (Burnt len ∷ history) le = starts_from first (base + len) history (omega arith)

disjoint_leases : (base : ℕ) (history : List Entry) → AllPairs Follows (leases base history)
disjoint_leases base [] = λ i j d lt long. absurd (omega arith)
disjoint_leases base (Given len ∷ history) = pairs_cons Follows (range_of base len) (leases (base + len) history)
    (starts_from (range_of base len) (base + len) history (omega arith)) (disjoint_leases (base + len) history)
disjoint_leases base (Burnt len ∷ history) = disjoint_leases (base + len) history

pub in_order : (book : BookState) → HasImage book.key (counter book) book.openings (burnt_now book)
    → IsSafe book.key (book.openings + 1) (leases book.base book.history) (MayLeave book.store) → IsInOrder book
in_order book counted safe =
    record { counted = counted; disjoint = disjoint_leases book.base book.history; safe = safe }

-- what is in order of reservations
record AreInOrder (r : ReservationsState) (may_leave : List ℕ → Type 0) : Type 0 where
  counted : HasImage r.key (counter_of r.base r.history) r.openings (burnt_after r.burnt r.history)
  safe : IsSafe r.key (r.openings + 1) (leases r.base r.history) may_leave

-- what holds of other reservations that are the book's
order_of : (book : BookState) (r : ReservationsState) → reservations_of book ≡ r → AreInOrder r (MayLeave book.store)
    → IsInOrder book
order_of book r is order =
    let mine = subst (λ (s : ReservationsState). AreInOrder s (MayLeave book.store)) (sym is) order in
    in_order book mine.counted mine.safe

-- the reservations of a book whose history alone changed
with_history : (old new : BookState) (history : List Entry) → IsSameOpening old new → new.history ≡ history
    → reservations_of new
    ≡ record { key = old.key; base = old.base; openings = old.openings; burnt = old.burnt; history = history }
with_history old new history same h =
    λ i.
    record { key = same.key i; base = same.base i; openings = same.openings i; burnt = same.burnt i; history = h i }

pub order_stays : (n : ℕ) (old : BookState) (answer : Result LeaseState BookFault) (new : BookState) → 1 ≤ n
    → IsSameOpening old new → IsInOrder old → Reserves n old answer new → IsInOrder new
order_stays n old (Ok lease) new some opening order (enough, is, history, wrote) =
    let r = reservations_of old in
    let counted = next_counted old.key (counter old) old.openings (burnt_now old) n order.counted some enough in
    order_of new _ (with_history old new (old.history ++ Given n ∷ []) opening history) (record {
      counted = recount old.key (counter old) old.openings (burnt_now old) _ old.openings _ order.counted
          (omega (arith, enough, counter-push old.base old.history (Given n)))
          (omega (arith, order.counted.openings_within, counter-push old.base old.history (Given n)))
          (omega (
            arith,
            order.counted.burnt_within,
            counter-push old.base old.history (Given n),
            burnt-push old.burnt old.history (Given n),
          ));
      safe = safe_given r n old.store new.store counted (leaves_written _ old.store new.store wrote);
    })
order_stays n old (Err (Exhausted left)) new some opening order (full, is, same) =
    subst (λ (book : BookState). IsInOrder book) (sym same) order
order_stays n old (Err OutOfMemory) new some opening order (enough, same) =
    subst (λ (book : BookState). IsInOrder book) (sym same) order
order_stays n old (Err (Store start len)) new some opening order (enough, s, l, history, failed) =
    let r = reservations_of old in
    let counted = next_counted old.key (counter old) old.openings (burnt_now old) n order.counted some enough in
    order_of new _ (with_history old new (old.history ++ Burnt n ∷ []) opening history) (record {
      counted = recount old.key (counter old) old.openings (burnt_now old) _ old.openings _ order.counted
          (omega (arith, enough, counter-push old.base old.history (Burnt n)))
          (omega (arith, order.counted.openings_within, counter-push old.base old.history (Burnt n)))
          (omega (
            arith,
            order.counted.burnt_within,
            counter-push old.base old.history (Burnt n),
            burnt-push old.burnt old.history (Burnt n),
          ));
      safe = safe_burnt r n old.store new.store counted order.safe (leaves_failed _ old.store new.store failed);
    })

pub reserved_in_order : (n : ℕ) (old : BookState) (answer : Result LeaseState BookFault) (new : BookState) → 1 ≤ n
    → IsInOrder old → IsSameOpening old new → Reserves n old answer new → ReservesInOrder n old answer new
reserved_in_order n old answer new some order opening is =
    record {
      found = order;
      opening = opening;
      reserves = is;
      left = order_stays n old answer new some opening order is;
    }
