-- What `resume` burns by one write.
use Rattle.std.specs.Prelude.{◌≡◌, ◌⊎◌, ◌+◌, ◌≤◌, ℕ}
use Rattle.lms_book.specs.Books.{burnt_now, counter, next_image}
use Rattle.lms_book.specs.States.{BookState}
use Rattle.lms_book.specs.Stops.{FailsToWrite, after_write}
use Rattle.lms_commands.specs.declared.fault.Fault.{Fault}
use Rattle.lms_commands.specs.declared.fault.Fault.TheVariants.{OutOfMemory, WriteStateBurnt}

-- the next indices of a book are used, one at least and all below this one, and the number of burnt ones stays: the
-- image that says so is stored for certain
pub record BurnsPiece (end : ℕ) (old new : BookState) : Type 0 where
  pub key : new.key ≡ old.key
  pub openings : new.openings ≡ old.openings
  pub len : ℕ
  pub some : 1 ≤ len
  pub within : counter old + len ≤ end
  pub used : counter new ≡ counter old + len
  pub burnt_stays : burnt_now new ≡ burnt_now old
  pub stored : new.store ≡ after_write (next_image len old) old.store

-- no indices are used, since memory ran out; or their image was written, but not stored for certain
abbrev pub BurnsNoPiece : ℕ → BookState → Fault → BookState → Type 0
BurnsNoPiece end old fault new =
    ((fault ≡ OutOfMemory) × (new.store ≡ old.store))
    ⊎ ((len : ℕ) × (fault ≡ WriteStateBurnt (counter old) len) × (1 ≤ len) × (counter old + len ≤ end)
    × FailsToWrite (next_image len old) old.store new.store)
