-- What `reserve` and `open` answer, and what they change; when a book is in order.
use Rattle.std.specs.Prelude.{◌≡◌, ◌⊎◌, ℕ, ◌+◌, ◌-◌, ◌≤◌, ◌<◌, Bool, true, List, [], ◌∷◌, ◌++◌, AllPairs, Result, Ok}
use Rattle.std.specs.Prelude.{Err, Some}
use Rattle.lms_spec.specs.Hss.{capacity_of}
use Rattle.lms_hss.specs.Keys.{hss_key_of}
use Rattle.lms_book.specs.declared.history.Entry.TheVariants.{Given, Burnt}
use Rattle.lms_book.specs.declared.fault.BookFault.{BookFault}
use Rattle.lms_book.specs.declared.fault.BookFault.TheVariants as faults
use Rattle.lms_book.specs.declared.fault.OpenFault.{OpenFault}
use Rattle.lms_book.specs.declared.fault.OpenFault.TheVariants as open_faults
use Rattle.lms_image.specs.Image.{image_of, fault_of, HasImage, IsImage}
use Rattle.lms_book.specs.History.{Range, end, counter_of, burnt_after, leases}
use Rattle.lms_book.specs.Stops.{StoreView, MayLeave, LeavesWithin, having_given, after_write, after_failure}
use Rattle.lms_book.specs.Stops.{FailsToWrite}
use Rattle.lms_book.specs.States.{BookState, LeaseState, IsSameOpening, IsSafe}

-- how many of the key's indices are used
abbrev pub counter : BookState → ℕ
counter book = counter_of book.base book.history

-- how many of the key's indices were burnt
abbrev pub burnt_now : BookState → ℕ
burnt_now book = burnt_after book.burnt book.history

-- the image that counts n indices more as used. It counts this opening, since it is its first write
-- or a later one, and those indices that were burnt before it is written.
abbrev pub next_image : ℕ → BookState → List ℕ
next_image n book = image_of book.key (counter book + n) (book.openings + 1) (burnt_now book)

-- how many indices the book's key has
abbrev pub capacity : BookState → ℕ
capacity book = capacity_of (hss_key_of book.key)

-- what a reservation of n indices answers and changes
abbrev pub Reserves : ℕ → BookState → Result LeaseState BookFault → BookState → Type 0
Reserves n old (Ok lease) new =
    (counter old + n ≤ capacity old)
    × (lease ≡ record { key = old.key; start = counter old; len = n })
    × (new.history ≡ old.history ++ Given n ∷ [])
    × (new.store ≡ after_write (next_image n old) old.store)
Reserves n old (Err (faults.Exhausted left)) new =
    (capacity old < counter old + n) × (left ≡ capacity old - counter old) × (new ≡ old)
Reserves n old (Err faults.OutOfMemory) new =
    (counter old + n ≤ capacity old) × (new ≡ old)
Reserves n old (Err (faults.Store start len)) new =
    (counter old + n ≤ capacity old)
    × (start ≡ counter old)
    × (len ≡ n)
    × (new.history ≡ old.history ++ Burnt n ∷ [])
    × FailsToWrite (next_image n old) old.store new.store

-- a book was opened from the bytes that its store's read gave: some that a crash could have left,
-- an image of the book's key and numbers
pub record IsReadFrom (store : StoreView) (book : BookState) : Type 0 where
  pub text : List ℕ
  pub left : MayLeave store text
  pub image : IsImage text book.key book.base book.openings book.burnt
  pub given : book.store ≡ having_given text store

-- why a store was not opened: it failed, or the bytes that its read gave have this fault, or
-- memory was refused
abbrev pub HasCause : Bool → StoreView → OpenFault → StoreView → Type 0
HasCause may_fail old open_faults.Store new = (may_fail ≡ true) × (new ≡ after_failure old)
HasCause may_fail old (open_faults.Image fault) new =
    (text : List ℕ) × MayLeave old text × (fault_of text ≡ Some fault)
    × (new ≡ having_given text old)
HasCause may_fail old open_faults.OutOfMemory new = new ≡ old

-- the second range begins at or after the end of the first
abbrev pub Follows : Range → Range → Type 0
Follows first second = end first ≤ second.start

-- a book's key and numbers have an image, so that the counter is within the key's capacity, and its
-- leases are disjoint and below each counter that a crash could leave stored
pub record IsInOrder (book : BookState) : Type 0 where
  pub counted : HasImage book.key (counter book) book.openings (burnt_now book)
  pub disjoint : AllPairs Follows (leases book.base book.history)
  pub safe : IsSafe book.key (book.openings + 1) (leases book.base book.history)
      (MayLeave book.store)

-- a reservation of n indices under one opening, with the book in order before and after
pub record ReservesInOrder (n : ℕ) (old : BookState) (answer : Result LeaseState BookFault)
    (new : BookState) : Type 0 where
  pub found : IsInOrder old
  pub opening : IsSameOpening old new
  pub reserves : Reserves n old answer new
  pub left : IsInOrder new

-- a crash at any moment of a reservation leaves what it could leave before, or the image that
-- counts its indices
abbrev pub NoThirdTextIsLeft : Type 0
NoThirdTextIsLeft =
    (n : ℕ) (old : BookState) (answer : Result LeaseState BookFault) (new : BookState)
    → Reserves n old answer new
    → (text : List ℕ) → LeavesWithin old.store new.store text → MayLeave old.store text
    ⊎ (text ≡ next_image n old)
