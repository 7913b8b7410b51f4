-- The calls that `batch` makes on its world.
use Rattle.std.specs.Prelude.{◌≡◌, ◌≢◌, ◌⊎◌, ◌≤◌, List, [], ◌∷◌, ◌++◌, length, ℕ, Option, Some, IfSome}
use Rattle.lms_batch.specs.Jobs.{JobText}
use Rattle.lms_batch.specs.Answers.{IsAnswerTo, start_of}
use Rattle.lms_batch.specs.declared.collector.Batch.{Batch}
use Rattle.lms_lines.specs.AnswerLines.{answer_text}
use Rattle.lms_blocks.specs.Writing.{AppendsFront}
use Rattle.lms_lines.specs.JobsTexts.{HasTooManyJobs, IsFirstBadLine, ReadsJobs}
use Rattle.lms_lines.specs.SignedLines.{signatures_in}
use Rattle.lms_texts.specs.Options.{AreWorkers}
use Rattle.lms_world.specs.Names.{Bytes}
use Rattle.lms_world.specs.Events.{Acquired, Locked, Unlocked, Printing, after}
use Rattle.lms_commands.specs.Logs.{IsLockRefused, IsReadRefused, KeyState, WorldCalls, lock_answer}
use Rattle.lms_commands.specs.Watching.{LeavesWatched, LogsUnwatched, UnsignedWatched, UsesAll}
use Rattle.lms_commands.specs.declared.fault.Fault.{Fault}
use Rattle.lms_commands.specs.declared.fault.Fault.TheVariants.{BadWorkers, BadJob, TooManyJobs, Partial, WriteOutput}

-- the jobs of an input are signed as a batch by the next indices of a state, whose use is stored
pub record LogsBatch (input rest : Option (List ℕ)) (batch : Batch)
    (old new : WorldCalls) : Type 0 where
  pub state : KeyState
  pub jobs : List JobText
  pub read : ReadsJobs input rest jobs
  pub uses : UsesAll (length jobs) state old new
  pub answer : IsAnswerTo state.key (start_of batch) jobs batch
  pub next : 1 ≤ length jobs → start_of batch ≡ state.index

-- at this fault the lines of an input are not read, or no memory is there for the desk
abbrev pub AreUnread : Option (List ℕ) → Fault → Type 0
AreUnread input fault =
    IsReadRefused fault
    ⊎ (((line : ℕ) × (fault ≡ BadJob line) × IfSome input (λ text. IsFirstBadLine text line))
    ⊎ ((fault ≡ TooManyJobs) × IfSome input HasTooManyJobs))

-- a state is read, and the jobs of an input are not signed; where their lines are not read, nothing is written
abbrev pub LogsJobsUnsigned : Option (List ℕ) → Option (List ℕ) → Fault → KeyState → WorldCalls
    → WorldCalls → Type 0
LogsJobsUnsigned input rest fault state old new =
    (AreUnread input fault × LeavesWatched state old new)
    ⊎ ((jobs : List JobText) × ReadsJobs input rest jobs × (1 ≤ length jobs)
    × UnsignedWatched (length jobs) fault state old new)

-- why the jobs of an input are not signed
abbrev pub LogsNoBatch : Option (List ℕ) → Option (List ℕ) → Fault → WorldCalls → WorldCalls
    → Type 0
LogsNoBatch input rest fault old new =
    (LogsUnwatched fault old new × (rest ≡ input))
    ⊎ ((state : KeyState) × LogsJobsUnsigned input rest fault state old new)

-- the jobs of an input are signed, and then their lines begin to be printed, where this was printed
-- before
pub record AnswersJobs (input rest : Option (List ℕ)) (before : List ℕ) (batch : Batch)
    (old new : WorldCalls) : Type 0 where
  pub until_signed : WorldCalls
  pub signs : LogsBatch input rest batch old until_signed
  pub prints : new ≡ after (Printing before ∷ []) until_signed

-- all lines of the jobs that were signed are printed, for `count` of the `asked` jobs
abbrev pub LogsAnswers : Option (List ℕ) → Option (List ℕ) → List ℕ → List ℕ → ℕ → ℕ → WorldCalls
    → WorldCalls → Type 0
LogsAnswers input rest before printed count asked old new =
    (batch : Batch) × (answers : AnswersJobs input rest before batch old new)
    × (count ≡ signatures_in batch) × (asked ≡ length answers.signs.jobs)
    × (printed ≡ before ++ answer_text batch)

-- why jobs are signed and not all answered: not all were signed, or a beginning at most of their
-- lines is printed
abbrev pub LogsUnprinted : Option (List ℕ) → Option (List ℕ) → List ℕ → List ℕ → Fault → WorldCalls
    → WorldCalls → Type 0
LogsUnprinted input rest before printed fault old new =
    ((count asked : ℕ) × (fault ≡ Partial count asked) × (count ≢ asked)
    × LogsAnswers input rest before printed count asked old new)
    ⊎ ((fault ≡ WriteOutput)
    × ((batch : Batch) × AnswersJobs input rest before batch old new
    × AppendsFront (Some before) (Some printed) (answer_text batch)))

-- why no jobs, or not all, are answered under a lock
abbrev pub LogsUnanswered : Option (List ℕ) → Option (List ℕ) → List ℕ → List ℕ → Fault → WorldCalls
    → WorldCalls → Type 0
LogsUnanswered input rest before printed fault old new =
    (LogsNoBatch input rest fault old new × (printed ≡ before))
    ⊎ LogsUnprinted input rest before printed fault old new

-- all calls of `batch`, which signs and answers all jobs, from its lock on until that is handed
-- back
abbrev pub LogsJobs : Bytes → Bytes → Option (List ℕ) → Option (List ℕ) → List ℕ → List ℕ
    → WorldCalls → WorldCalls → Type 0
LogsJobs state workers input rest before printed old new = (last : WorldCalls) × (count : ℕ)
    × LogsAnswers input rest before printed count count (after (Locked state Acquired ∷ []) old) last
    × (new ≡ after (Unlocked ∷ []) last) × AreWorkers workers

-- the same, where it fails
abbrev pub LogsJobsFailed : Bytes → Bytes → Option (List ℕ) → Option (List ℕ) → List ℕ → List ℕ
    → Fault → WorldCalls → WorldCalls → Type 0
LogsJobsFailed state workers input rest before printed fault old new =
    ((fault ≡ BadWorkers) × (new ≡ old) × (printed ≡ before) × (¬ AreWorkers workers)
    × (rest ≡ input))
    ⊎ ((IsLockRefused fault × (new ≡ after (Locked state (lock_answer fault) ∷ []) old)
    × (printed ≡ before) × AreWorkers workers × (rest ≡ input))
    ⊎ ((last : WorldCalls)
    × LogsUnanswered input rest before printed fault (after (Locked state Acquired ∷ []) old) last
    × (new ≡ after (Unlocked ∷ []) last) × AreWorkers workers))
