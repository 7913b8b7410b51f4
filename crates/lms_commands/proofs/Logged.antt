-- What a command logged, by what its steps did.
use Rattle.std.proofs.Common.{◌≡◌, ◌∙◌, inl, inr, ℕ, ◌+◌, ◌≤◌, List, ◌∷◌, Some, refl, ap}
use Rattle.std.proofs.Common.{subst, arith}
use Rattle.lms_image.specs.Image.{HasImage}
use Rattle.lms_book.specs.declared.fault.OpenFault.{OpenFault}
use Rattle.lms_book.specs.declared.fault.OpenFault.TheVariants as opening
use Rattle.lms_book.specs.Books.{HasCause, IsReadFrom, capacity, counter, next_image}
use Rattle.lms_book.specs.States.{BookState}
use Rattle.lms_book.specs.Stops.{StoreView, FailsToWrite, after_write}
use Rattle.lms_world.specs.Events.{Event, PutBack, Taken, Taking}
use Rattle.lms_commands.specs.Faults.{of_opening}
use Rattle.lms_commands.specs.Logs.{LeavesState, WorldCalls, LogsUnopened}
use Rattle.lms_commands.specs.Logs.{OpensState, ReadsState, StoresUse, TriesUse, state_of}
use Rattle.lms_commands.proofs.Signings.{IsJustOpened, image_is}

-- two calls, and three
pub two_calls : (x y z : WorldCalls) (a b : Event) → y ≡ a ∷ x → z ≡ b ∷ y → z ≡ b ∷ a ∷ x
two_calls x y z a b first then = then ∙ ap (λ (log : WorldCalls). b ∷ log) first

pub three_calls : (w x y z : WorldCalls) (a b c : Event) → x ≡ a ∷ w → y ≡ b ∷ x → z ≡ c ∷ y → z ≡ c ∷ b ∷ a ∷ w
three_calls w x y z a b c first then last = last ∙ ap (λ (log : WorldCalls). c ∷ log) (two_calls w x y a b first then)

-- a store that was not opened is put back
pub unopened : (fault : OpenFault) (taken : Taking) (left : StoreView) (old new : WorldCalls)
    → HasCause taken.may_fail taken.view fault left → new ≡ PutBack left ∷ Taken (Some taken) ∷ old
    → LogsUnopened (of_opening fault) old new
unopened opening.Store taken left old new (may, is) calls =
    inr (taken, inr (inl (refl, may, calls ∙ ap (λ (v : StoreView). PutBack v ∷ Taken (Some taken) ∷ old) is)))
unopened (opening.Image bad) taken left old new (text, may, has, is) calls =
    inr (
      taken,
      inr (inr (bad, text, refl, may, has, calls ∙ ap (λ (v : StoreView). PutBack v ∷ Taken (Some taken) ∷ old) is)),
    )
unopened opening.OutOfMemory taken left old new is calls =
    inr (taken, inl (refl, calls ∙ ap (λ (v : StoreView). PutBack v ∷ Taken (Some taken) ∷ old) is))

-- what a book read, in terms of its state
pub state_read : (taken : StoreView) (book : BookState) → IsReadFrom taken book
    → HasImage book.key book.base book.openings book.burnt
    → ReadsState (state_of book) taken book.store
state_read taken book is counted =
    record { text = is.text; left = is.left; counted = counted; image = is.image; given = is.given }

-- a book was opened, and its store put back
module _ (before after_it : BookState) (view : StoreView) (old opened back : WorldCalls)
    (opens : OpensState before old opened)
    (is_fresh : IsJustOpened before) (view_is : view ≡ after_it.store) (back_is : back ≡ PutBack view ∷ opened) where
  abbrev taken : Taking
  taken = opens.0

  all : back ≡ PutBack view ∷ Taken (Some taken) ∷ old
  all = back_is ∙ ap (λ (log : WorldCalls). PutBack view ∷ log) opens.2

  put : (left : StoreView) → after_it.store ≡ left → back ≡ PutBack left ∷ Taken (Some taken) ∷ old
  put left is = all ∙ ap (λ (v : StoreView). PutBack v ∷ Taken (Some taken) ∷ old) (view_is ∙ is)

  pub stored : (n : ℕ) → counter before + n ≤ capacity before
      → after_it.store ≡ after_write (next_image n before) before.store
      → StoresUse n (state_of before) old back
  stored n within is = (
    taken,
    before.store,
    opens.1,
    omega (arith, within, is_fresh.used),
    put _ (is ∙ ap (λ (image : List ℕ). after_write image before.store) (image_is n before is_fresh)),
  )

  pub tried : (n : ℕ) → counter before + n ≤ capacity before
      → FailsToWrite (next_image n before) before.store after_it.store
      → TriesUse n (state_of before) old back
  tried n within failed = (
    taken,
    before.store,
    after_it.store,
    opens.1,
    omega (arith, within, is_fresh.used),
    subst (λ (image : List ℕ). FailsToWrite image before.store after_it.store) (image_is n before is_fresh) failed,
    put _ refl,
  )

  pub left_so : after_it ≡ before → LeavesState (state_of before) old back
  left_so same = (taken, before.store, opens.1, put _ (ap (λ (b : BookState). b.store) same))
