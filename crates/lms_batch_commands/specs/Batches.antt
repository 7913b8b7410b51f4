-- What `batch` does with a book, and what it prints.
use Rattle.std.specs.Prelude.{ℕ, ◌≡◌, ◌≢◌, ◌⊎◌, List, length, Option}
use Rattle.std.specs.Io.KnownBytes.{Appends}
use Rattle.lms_batch.specs.declared.collector.Batch.{Batch}
use Rattle.lms_book.specs.States.{BookState}
use Rattle.lms_lines.specs.AnswerLines.{answer_text}
use Rattle.lms_blocks.specs.Writing.{AppendsFront}
use Rattle.lms_lines.specs.SignedLines.{signatures_in}
use Rattle.lms_lines.specs.declared.signing.SignedJobs.{SignedJobs}
use Rattle.lms_commands.specs.Logs.{WorldCalls, state_of}
use Rattle.lms_commands.specs.Watching.{OpensWatched, Watch}
use Rattle.lms_commands.specs.declared.fault.Fault.{Fault}
use Rattle.lms_batch_commands.specs.BatchLogs.{LogsBatch, LogsJobsUnsigned}
use Rattle.lms_commands.specs.declared.fault.Fault.TheVariants.{WriteOutput, Partial}

-- a batch's lines are printed, and not all jobs were signed; or a beginning at most of them is printed
abbrev pub IsUnprinted : Batch → ℕ → Option (List ℕ) → Option (List ℕ) → Fault → Type 0
IsUnprinted batch asked before after fault =
    ((fault ≡ Partial (signatures_in batch) asked)
    × (signatures_in batch ≢ asked) × Appends before after (answer_text batch))
    ⊎ ((fault ≡ WriteOutput) × AppendsFront before after (answer_text batch))

-- since this book was opened with its witness the jobs of an input were signed, its store put back, and
-- the witness written
abbrev pub SignsOpened : Watch → BookState → Option (List ℕ) → Option (List ℕ) → SignedJobs
    → WorldCalls → WorldCalls → Type 0
SignsOpened watch book input rest signed opened new =
    (old : WorldCalls) → OpensWatched watch book old opened
    → (signs : LogsBatch input rest signed.batch old new) × (signs.state ≡ state_of book)
    × (signed.asked ≡ length signs.jobs)

-- they were not, and it was put back
abbrev pub LeavesOpened : Watch → BookState → Option (List ℕ) → Option (List ℕ) → Fault → WorldCalls
    → WorldCalls → Type 0
LeavesOpened watch book input rest fault opened new =
    (old : WorldCalls) → OpensWatched watch book old opened
    → LogsJobsUnsigned input rest fault (state_of book) old new
