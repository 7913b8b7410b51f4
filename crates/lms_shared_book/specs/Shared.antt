-- What becomes of a book that is shared.
use Rattle.std.specs.Prelude.{◌≡◌, ℕ, List, [], ◌∷◌, Ok, Err}
use Rattle.lms_book.specs.declared.history.Entry.{Entry}
use Rattle.lms_book.specs.declared.history.Entry.TheVariants.{Given, Burnt}
use Rattle.lms_book.specs.declared.fault.BookFault.TheVariants.{Store}
use Rattle.lms_book.specs.States.{BookState, LeaseState, IsSameOpening}
use Rattle.lms_book.specs.Books.{Reserves, counter}
use Rattle.lms_shared_book.specs.Desks.{SharedState, Sums, sums_of}

-- the next n indices of a book
abbrev pub next_lease : BookState → ℕ → LeaseState
next_lease book n = record { key = book.key; start = counter book; len = n }

-- a reservation that adds this entry to the history: one that gave a lease, or one whose write
-- failed
abbrev pub IsReservationOf : BookState → Entry → BookState → Type 0
IsReservationOf old (Given n) new = Reserves n old (Ok (next_lease old n)) new
IsReservationOf old (Burnt n) new = Reserves n old (Err (Store (counter old) n)) new

-- such a reservation, under one opening
pub record IsAfterEntry (old : BookState) (entry : Entry) (new : BookState) : Type 0 where
  pub opening : IsSameOpening old new
  pub reservation : IsReservationOf old entry new

-- a book became this one by the reservations of these entries, one after another
abbrev pub IsAfter : BookState → List Entry → BookState → Type 0
IsAfter start [] book = book ≡ start
IsAfter start (entry ∷ entries) book =
    (next : BookState) × IsAfterEntry start entry next × IsAfter next entries book

-- what is found under the lock: the book that was shared, after some reservations. A desk that is
-- the only one counts them all.
pub record IsFound (shared : SharedState) (counted : Sums) (found : BookState) : Type 0 where
  pub entries : List Entry
  pub after : IsAfter shared.book entries found
  pub alone : shared.desks ≡ 1 → sums_of entries ≡ counted

-- what is under the lock in the end: the book that was shared, after some reservations, which all
-- desks together count
pub record IsSettled (shared : BookState) (counted : Sums) (book : BookState) : Type 0 where
  pub entries : List Entry
  pub after : IsAfter shared entries book
  pub all : sums_of entries ≡ counted
