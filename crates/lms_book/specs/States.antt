-- What contracts see of a book, of its reservations and of a lease.
use Rattle.std.specs.Prelude.{◌≡◌, ℕ, ◌+◌, ◌≤◌, List}
use Rattle.std.specs.List.{AllByRecursion}
use Rattle.lms_spec.specs.Hss.{capacity_of}
use Rattle.lms_hss.specs.Covered.{most_covered}
use Rattle.lms_hss.specs.Keys.{hss_key_of}
use Rattle.lms_hss.specs.declared.key.HssKey.{HssKey as KeyOfCode}
use Rattle.lms_book.specs.declared.history.Entry.{Entry}
use Rattle.lms_image.specs.Image.{HasImage, IsImageFrom}
use Rattle.lms_image.specs.declared.image.Image.{Image}
use Rattle.lms_book.specs.History.{Range, end, counter_of, leases, stored_of, burnt_after}
use Rattle.lms_book.specs.Stops.{Texts, StoreView, MayLeave}
use Rattle.lms_book.specs.Lives.{IsOpened, opening_of}

-- a key, the counter, the openings and the burnt indices that were read, and the reservations since
pub record ReservationsState : Type 0 where
  pub key : KeyOfCode
  pub base : ℕ
  pub openings : ℕ
  pub burnt : ℕ
  pub history : List Entry

-- a book: what is seen of its reservations, and of its store
pub record BookState : Type 0 where
  pub key : KeyOfCode
  pub base : ℕ
  pub openings : ℕ
  pub burnt : ℕ
  pub history : List Entry
  pub store : StoreView

-- the reservations of a book
abbrev pub reservations_of : BookState → ReservationsState
reservations_of book =
    record {
      key = book.key;
      base = book.base;
      openings = book.openings;
      burnt = book.burnt;
      history = book.history;
    }

-- a range of a key's indices
pub record LeaseState : Type 0 where
  pub key : KeyOfCode
  pub start : ℕ
  pub len : ℕ

-- what a lease holds: 1 to 1024 of the key's indices
pub record IsLease (key : KeyOfCode) (start len : ℕ) : Type 0 where
  pub some : 1 ≤ len
  pub at_most : len ≤ most_covered
  pub within : start + len ≤ capacity_of (hss_key_of key)

-- each byte string that a crash now could leave is an image of the key with this number of
-- openings, and with a counter at or after the end of each range
abbrev pub IsSafe : KeyOfCode → ℕ → List Range → (List ℕ → Type 0) → Type 0
IsSafe key number ranges may_leave =
    AllByRecursion (λ range.
    (left : List ℕ) → may_leave left → IsImageFrom key number (end range) left) ranges

-- the running numbers are those of the history, and there is an image of the key with them
pub record IsKept (reserved : ReservationsState) (counter stored burnt : ℕ) : Type 0 where
  pub counter_is : counter ≡ counter_of reserved.base reserved.history
  pub stored_is : stored ≡ stored_of reserved.base reserved.history
  pub burnt_is : burnt ≡ burnt_after reserved.burnt reserved.history
  pub counted : HasImage reserved.key counter reserved.openings burnt

-- the image to store so that n indices more are used: it counts this opening, and what was burnt so
-- far
pub record IsNextOf (reserved : ReservationsState) (n : ℕ) (image : Image) : Type 0 where
  pub key : image.key ≡ reserved.key
  pub counter : image.counter ≡ counter_of reserved.base reserved.history + n
  pub openings : image.openings ≡ reserved.openings + 1
  pub burnt : image.burnt ≡ burnt_after reserved.burnt reserved.history
  pub counted : HasImage image.key image.counter image.openings image.burnt

-- each lease is counted as used by all that a crash could leave in the store; and what was
-- reserved, since the store held one of the byte strings `held`, is an opening of which the laws of
-- lives speak
pub record IsBackedBy (reserved : ReservationsState) (store : StoreView) : Type 0 where
  pub safe : IsSafe reserved.key (reserved.openings + 1) (leases reserved.base reserved.history)
      (MayLeave store)
  pub held : Texts
  pub opened : IsOpened
      (opening_of held reserved.key reserved.base reserved.openings reserved.burnt reserved.history)
      store.now

-- what a book did since one of these byte strings was held is an opening of which the laws of lives
-- speak, and leaves what its store may leave now
abbrev pub IsOpenedFrom : Texts → BookState → Type 0
IsOpenedFrom held book =
    IsOpened
    (opening_of held book.key book.base book.openings book.burnt book.history) book.store.now

-- two states of a book under one opening: its key and what was read stay, and where the first is an
-- opening of some byte strings, so is the second
pub record IsSameOpening (old new : BookState) : Type 0 where
  pub key : new.key ≡ old.key
  pub base : new.base ≡ old.base
  pub openings : new.openings ≡ old.openings
  pub burnt : new.burnt ≡ old.burnt
  pub opened : (held : Texts) → IsOpenedFrom held old → IsOpenedFrom held new
