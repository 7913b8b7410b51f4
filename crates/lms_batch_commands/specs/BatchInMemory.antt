-- What `batch` leaves in a world in memory, by its calls.
use Rattle.std.specs.Prelude.{ℕ, ◌≡◌, ◌≢◌, ◌⊎◌, ◌+◌, ◌≤◌, List, ◌++◌, length, false, Option, Some}
use Rattle.lms_spec.specs.Hss.{capacity_of}
use Rattle.lms_hss.specs.Keys.{hss_key_of}
use Rattle.lms_batch.specs.Jobs.{JobText}
use Rattle.lms_batch.specs.Answers.{IsAnswerTo, start_of}
use Rattle.lms_batch.specs.declared.collector.Batch.{Batch}
use Rattle.lms_lines.specs.AnswerLines.{answer_text}
use Rattle.lms_blocks.specs.Writing.{AppendsFront}
use Rattle.lms_lines.specs.JobsTexts.{ReadsJobs}
use Rattle.lms_lines.specs.SignedLines.{signatures_in}
use Rattle.lms_texts.specs.Options.{AreWorkers}
use Rattle.lms_world.specs.Names.{Bytes}
use Rattle.lms_world.specs.Held.{Follows, Held}
use Rattle.lms_batch_commands.specs.BatchLogs.{AreUnread, LogsJobs, LogsJobsFailed}
use Rattle.lms_commands.specs.InMemory.{CountsUses, FailsToLock, FailsToWatch, FindsState, IsWatched, SignsNone, WasState, noted}
use Rattle.lms_commands.specs.Logs.{KeyState, WorldCalls}
use Rattle.lms_commands.specs.declared.fault.Fault.{Fault}
use Rattle.lms_commands.specs.declared.fault.Fault.TheVariants.{BadWorkers, Partial, WriteOutput}

-- the jobs of an input are signed as a batch, perhaps not all, by the next indices of the state's key. The witness, if
-- there is one, does not refuse the state, and says afterwards that they are used; no file and no nodes are changed
pub record SignsJobs (input rest : Option (List ℕ)) (batch : Batch) (old new : Held) : Type 0 where
  pub free : old.in_use ≡ false
  pub state : KeyState
  pub was : WasState state old.state
  pub jobs : List JobText
  pub read : ReadsJobs input rest jobs
  pub answer : IsAnswerTo state.key (start_of batch) jobs batch
  pub next : 1 ≤ length jobs → start_of batch ≡ state.index
  pub within : state.index + length jobs ≤ capacity_of (hss_key_of state.key)
  pub files : new.files ≡ old.files
  pub nodes : new.nodes ≡ old.nodes
  pub counted : CountsUses (length jobs) state old.state new.state
  pub watched : IsWatched state old.witness
  pub witness : new.witness ≡ noted (length jobs) state old.witness

-- of a world in memory, `batch` at status 0 signs all jobs, and prints their lines
abbrev pub SignsJobsInMemory : Type 0
SignsJobsInMemory = (state workers : Bytes) (input rest : Option (List ℕ))
    (before printed : List ℕ) (old new : Held) (earlier now : WorldCalls)
    → LogsJobs state workers input rest before printed earlier now
    → Follows (Some old) earlier (Some new) now
    → (batch : Batch) × ((signs : SignsJobs input rest batch old new)
    × (signatures_in batch ≡ length signs.jobs) × (printed ≡ before ++ answer_text batch))

-- jobs are signed and not all answered: some are not signed, or a beginning at most of the lines is
-- printed
abbrev pub SignsInPart : Option (List ℕ) → Option (List ℕ) → List ℕ → List ℕ → Fault → Held → Held
    → Type 0
SignsInPart input rest before printed fault old new =
    (batch : Batch) × ((signs : SignsJobs input rest batch old new)
    × (((fault ≡ Partial (signatures_in batch) (length signs.jobs))
    × (signatures_in batch ≢ length signs.jobs) × (printed ≡ before ++ answer_text batch))
    ⊎ ((fault ≡ WriteOutput) × AppendsFront (Some before) (Some printed) (answer_text batch))))

-- why not all jobs are signed and answered, in the order in which that is found
abbrev pub FailsToSignJobs : Bytes → Option (List ℕ) → Option (List ℕ) → List ℕ → List ℕ → Fault
    → Held → Held → Type 0
FailsToSignJobs workers input rest before printed fault old new =
    ((fault ≡ BadWorkers) × (¬ AreWorkers workers) × (new ≡ old))
    ⊎ (AreWorkers workers
    × (FailsToLock fault old new
    ⊎ ((old.in_use ≡ false) × ((FailsToWatch fault old new × (rest ≡ input))
    ⊎ ((AreUnread input fault × ((found : FindsState old new) × IsWatched found.state old.witness))
    ⊎ (((jobs : List JobText) × ReadsJobs input rest jobs × SignsNone (length jobs) fault old new)
    ⊎ SignsInPart input rest before printed fault old new))))))

-- of a world in memory, this is why `batch` fails
abbrev pub FailsToSignJobsInMemory : Type 0
FailsToSignJobsInMemory = (state workers : Bytes) (input rest : Option (List ℕ))
    (before printed : List ℕ) (fault : Fault) (old new : Held) (earlier now : WorldCalls)
    → LogsJobsFailed state workers input rest before printed fault earlier now
    → Follows (Some old) earlier (Some new) now
    → FailsToSignJobs workers input rest before printed fault old new
