-- What a store holds of a book's reservations, after a reservation more.
use Rattle.std.proofs.Common.{◌≡◌, ◌∙◌, ◌⊎◌, inl, inr, ⊎_elim, ℕ, ◌+◌, List, [], ◌∷◌, ◌++◌, refl, sym, subst}
use Rattle.lms_book.specs.declared.history.Entry.TheVariants.{Given, Burnt}
use Rattle.lms_image.specs.Image.{HasImage}
use Rattle.lms_book.specs.History.{counter_of, burnt_after}
use Rattle.lms_book.specs.Stops.{StoreView, MayLeave, after_write, FailsToWrite}
use Rattle.lms_book.specs.States.{BookState, ReservationsState, IsBackedBy, IsSameOpening}
use Rattle.lms_book.proofs.Histories.{safe_given, safe_burnt, text_after}
use Rattle.lms_book.proofs.Leaving.{leaves_written, leaves_failed}
use Rattle.lms_book.proofs.Openings.{opened_given, opened_burnt}

abbrev pub with_given : ReservationsState → ℕ → ReservationsState
with_given r n = record r { history = r.history ++ Given n ∷ [] }

abbrev pub with_burnt : ReservationsState → ℕ → ReservationsState
with_burnt r n = record r { history = r.history ++ Burnt n ∷ [] }

-- the book of these reservations
abbrev pub book_of : ReservationsState → StoreView → BookState
book_of r store =
    record { key = r.key; base = r.base; openings = r.openings; burnt = r.burnt; history = r.history; store = store }

module _ (n : ℕ) (r : ReservationsState) (text : List ℕ) (old new : StoreView) (image : text ≡ text_after r n)
    (counted : HasImage r.key (counter_of r.base r.history + n) (r.openings + 1) (burnt_after r.burnt r.history)) where
  image_alone : new ≡ after_write text old → (left : List ℕ) → MayLeave new left → left ≡ text_after r n
  image_alone is left may = leaves_written text old new is left may ∙ image

  image_or_old : FailsToWrite text old new → (left : List ℕ) → MayLeave new left
      → MayLeave old left ⊎ (left ≡ text_after r n)
  image_or_old is left may =
      ⊎_elim (λ was. inl was) (λ here. inr (here ∙ image)) (leaves_failed text old new is left may)

  pub same_with_given : (later : ReservationsState) → later ≡ with_given r n → new ≡ after_write text old
      → IsSameOpening (book_of r old) (book_of later new)
  same_with_given later is wrote =
      subst (λ (l : ReservationsState). IsSameOpening (book_of r old) (book_of l new)) (sym is) (record {
        key = refl;
        base = refl;
        openings = refl;
        burnt = refl;
        opened = λ held opened. opened_given held r n old new opened counted.within (image_alone wrote);
      })

  pub same_with_burnt : (later : ReservationsState) → later ≡ with_burnt r n → FailsToWrite text old new
      → IsSameOpening (book_of r old) (book_of later new)
  same_with_burnt later is failed =
      subst (λ (l : ReservationsState). IsSameOpening (book_of r old) (book_of l new)) (sym is) (record {
        key = refl;
        base = refl;
        openings = refl;
        burnt = refl;
        opened = λ held opened. opened_burnt held r n old new opened counted.within (image_or_old failed);
      })

  pub backed_with_given : (later : ReservationsState) → later ≡ with_given r n → new ≡ after_write text old
      → IsBackedBy r old → IsBackedBy later new
  backed_with_given later is wrote backed = subst (λ (l : ReservationsState). IsBackedBy l new) (sym is) (record {
    safe = safe_given r n old new counted (image_alone wrote);
    held = backed.held;
    opened = opened_given backed.held r n old new backed.opened counted.within (image_alone wrote);
  })

  pub backed_with_burnt : (later : ReservationsState) → later ≡ with_burnt r n → FailsToWrite text old new
      → IsBackedBy r old → IsBackedBy later new
  backed_with_burnt later is failed backed = subst (λ (l : ReservationsState). IsBackedBy l new) (sym is) (record {
    safe = safe_burnt r n old new counted backed.safe (image_or_old failed);
    held = backed.held;
    opened = opened_burnt backed.held r n old new backed.opened counted.within (image_or_old failed);
  })
