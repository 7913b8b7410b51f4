-- What becomes of a book that is shared while job lines are signed, at one desk.
use Rattle.std.specs.Prelude.{◌≡◌, ℕ, List, Option, [], ◌∷◌}
use Rattle.lms_book.specs.States.{BookState}
use Rattle.lms_shared_book.specs.Desks.{SharedState, Sums, sums}
use Rattle.lms_shared_book.specs.Shared.{IsSettled}
use Rattle.lms_lines.specs.SignedLines.{IsSigned, IsUnsigned}
use Rattle.lms_lines.specs.declared.fault.LinesFault.{LinesFault}
use Rattle.lms_lines.specs.declared.signing.SignedJobs.{SignedJobs}
use Rattle.lms_commands.specs.Faults.{of_lines}
use Rattle.lms_commands.specs.declared.fault.Fault.{Fault}

-- the lines of an input were signed, and the desk counts that
abbrev pub IsSignedAt : SharedState → Option (List ℕ) → Option (List ℕ) → SignedJobs → Sums → Type 0
IsSignedAt shared input rest signed counted =
    IsSigned shared input rest (sums 0 0 0) counted signed

-- they were not, and the desk counts that
abbrev pub IsRefusedAt : SharedState → Option (List ℕ) → Option (List ℕ) → Fault → Sums → Type 0
IsRefusedAt shared input rest fault counted =
    (lines : LinesFault) × (fault ≡ of_lines lines)
    × IsUnsigned shared input rest (sums 0 0 0) counted lines

-- the same, of the list of all desks
abbrev pub IsSignedAtDesk : SharedState → Option (List ℕ) → Option (List ℕ) → SignedJobs → List Sums
    → Type 0
IsSignedAtDesk shared input rest signed desks =
    (counted : Sums) × (desks ≡ counted ∷ []) × IsSignedAt shared input rest signed counted

abbrev pub IsRefusedAtDesk : SharedState → Option (List ℕ) → Option (List ℕ) → Fault → List Sums
    → Type 0
IsRefusedAtDesk shared input rest fault desks =
    (counted : Sums) × (desks ≡ counted ∷ []) × IsRefusedAt shared input rest fault counted

abbrev pub at_one_desk : BookState → SharedState
at_one_desk book = record { book = book; desks = 1 }

-- the lines were signed, and this book is left
abbrev pub IsSignedByBook : BookState → Option (List ℕ) → Option (List ℕ) → SignedJobs → BookState
    → Type 0
IsSignedByBook book input rest signed left =
    (counted : Sums) × IsSignedAt (at_one_desk book) input rest signed counted
    × IsSettled book counted left

-- they were not, and this book is left
abbrev pub IsRefusedBy : BookState → Option (List ℕ) → Option (List ℕ) → Fault → BookState → Type 0
IsRefusedBy book input rest fault left =
    (counted : Sums) × IsRefusedAt (at_one_desk book) input rest fault counted
    × IsSettled book counted left
