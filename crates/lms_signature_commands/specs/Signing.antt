-- What `sign` does with a book's next index.
use Rattle.std.specs.Prelude.{◌≡◌, ◌+◌, ◌≤◌, ◌++◌, [], ◌∷◌, Err}
use Rattle.lms_book.specs.Books.{Reserves, capacity, counter, next_image}
use Rattle.lms_book.specs.States.{BookState}
use Rattle.lms_book.specs.Stops.{after_write}
use Rattle.lms_book.specs.declared.history.Entry.TheVariants.{Given as Gave}
use Rattle.lms_commands.specs.Faults.{of_book}
use Rattle.lms_commands.specs.declared.fault.Fault.{Fault}
use Rattle.lms_commands.specs.declared.fault.Fault.TheVariants.{OutOfMemoryBurnt}
use Rattle.lms_signature_commands.specs.declared.sign.NextFault.{NextFault}
use Rattle.lms_signature_commands.specs.declared.sign.NextFault.TheVariants as unsigned

-- a book's next index is given, once the image that counts it is all that a crash leaves
pub record GivesOne (old new : BookState) : Type 0 where
  pub within : counter old + 1 ≤ capacity old
  pub given : new.history ≡ old.history ++ Gave 1 ∷ []
  pub stored : new.store ≡ after_write (next_image 1 old) old.store

-- why a book's next index signed nothing: it was not given, or it was and memory ran out
abbrev pub SignsNothing : BookState → NextFault → BookState → Type 0
SignsNothing old (unsigned.Book fault) new = Reserves 1 old (Err fault) new
SignsNothing old unsigned.OutOfMemory new = GivesOne old new

-- the fault that a message not signed is
abbrev pub of_signing : NextFault → Fault
of_signing (unsigned.Book fault) = of_book fault
of_signing unsigned.OutOfMemory = OutOfMemoryBurnt 1
