-- What becomes of job lines that a service signs.
use Rattle.std.specs.Prelude.{◌≡◌, ◌≢◌, ℕ, ◌+◌, ◌≤◌, List, Option, Result, IfErr, IfOk, IfSome, count_by, is_some}
use Rattle.std.specs.Prelude.{length, Err, Ok}
use Rattle.std.specs.Io.KnownBytes.{Appends}
use Rattle.lms_spec.specs.Hss.{capacity_of}
use Rattle.lms_hss.specs.Keys.{hss_key_of}
use Rattle.lms_shared_book.specs.Desks.{SharedState, Sums}
use Rattle.lms_batch.specs.Jobs.{JobText}
use Rattle.lms_batch.specs.Answers.{CouldBeReserved, CountsBatch, IsAnswerTo, start_of}
use Rattle.lms_batch.specs.declared.collector.Batch.{Batch}
use Rattle.lms_batch.specs.declared.collector.Batch.TheVariants.{Complete, Partial}
use Rattle.lms_batch.specs.declared.fault.BatchFault.{BatchFault}
use Rattle.lms_batch.specs.declared.fault.BatchFault.TheVariants.{TooMany}
use Rattle.lms_lines.specs.AnswerLines.{answer_text}
use Rattle.lms_blocks.specs.Writing.{AppendsFront}
use Rattle.lms_lines.specs.JobsTexts.{IsFaultOf, ReadsJobs}
use Rattle.lms_lines.specs.declared.signing.Done.{Done}
use Rattle.lms_lines.specs.declared.fault.LinesFault.{LinesFault}
use Rattle.lms_lines.specs.declared.fault.LinesFault.TheVariants as lines
use Rattle.lms_lines.specs.declared.signing.SignedJobs.{SignedJobs}

-- how many signatures a batch has
abbrev pub signatures_in : Batch → ℕ
signatures_in (Complete start signatures) = length signatures.items
signatures_in (Partial start slots) = count_by is_some slots.items

-- the batch has signatures of the jobs that the reader had, by the key of a shared book; the desk
-- counts it, and its indices were reserved
pub record IsBatchRead (shared : SharedState) (old_input new_input : Option (List ℕ))
    (before after : Sums) (batch : Batch) : Type 0 where
  pub jobs : List JobText
  pub read : ReadsJobs old_input new_input jobs
  pub answer : IsAnswerTo shared.book.key (start_of batch) jobs batch
  pub within : start_of batch + length jobs ≤ capacity_of (hss_key_of shared.book.key)
  pub counted : CountsBatch (length jobs) before (Ok batch) after
  pub reserved : 1 ≤ length jobs → CouldBeReserved shared before (length jobs) (Ok batch)

-- no batch was made for the jobs that the reader had, and the desk counts that
pub record IsBatchRefused (shared : SharedState) (old_input new_input : Option (List ℕ))
    (before after : Sums) (fault : BatchFault) : Type 0 where
  pub jobs : List JobText
  pub read : ReadsJobs old_input new_input jobs
  pub some : 1 ≤ length jobs
  pub counted : CountsBatch (length jobs) before (Err fault) after
  pub reserved : CouldBeReserved shared before (length jobs) (Err fault)
  pub few : fault ≢ TooMany

-- the jobs that the reader had were signed as such a batch, and this is their number
abbrev pub IsSigned : SharedState → Option (List ℕ) → Option (List ℕ) → Sums → Sums → SignedJobs
    → Type 0
IsSigned shared old_input new_input before after signed =
    (is : IsBatchRead shared old_input new_input before after signed.batch)
    × (signed.asked ≡ length is.jobs)

-- why the jobs were not signed: the input has a fault, and nothing is reserved; or there is no
-- batch, which is not for too many jobs
abbrev pub IsUnsigned : SharedState → Option (List ℕ) → Option (List ℕ) → Sums → Sums → LinesFault
    → Type 0
IsUnsigned shared old_input new_input before after (lines.Jobs fault) =
    IfSome old_input (λ text. IsFaultOf text fault) × (after ≡ before)
IsUnsigned shared old_input new_input before after (lines.Batch fault) =
    IsBatchRefused shared old_input new_input before after fault
IsUnsigned shared old_input new_input before after lines.Write = ⊥

-- the jobs were signed, and the lines of their batch written: so many lines, for so many jobs
abbrev pub IsDone : SharedState → Option (List ℕ) → Option (List ℕ) → Option (List ℕ)
    → Option (List ℕ) → Sums → Sums → Done → Type 0
IsDone shared old_input new_input old_output new_output before after done =
    (jobs : SignedJobs) × IsSigned shared old_input new_input before after jobs
    × Appends old_output new_output (answer_text jobs.batch)
    × (done.signed ≡ signatures_in jobs.batch) × (done.asked ≡ jobs.asked)

-- why not all lines were written: the jobs were not signed; or they were, and a beginning of the
-- lines of their batch was written
abbrev pub IsLinesFault : SharedState → Option (List ℕ) → Option (List ℕ) → Option (List ℕ)
    → Option (List ℕ) → Sums → Sums → LinesFault → Type 0
IsLinesFault shared old_input new_input old_output new_output before after (lines.Jobs fault) =
    IsUnsigned shared old_input new_input before after (lines.Jobs fault)
IsLinesFault shared old_input new_input old_output new_output before after (lines.Batch fault) =
    IsUnsigned shared old_input new_input before after (lines.Batch fault)
IsLinesFault shared old_input new_input old_output new_output before after lines.Write =
    (batch : Batch) × IsBatchRead shared old_input new_input before after batch
    × AppendsFront old_output new_output (answer_text batch)

-- what is answered to job lines: what was done, or why it was not; at any fault but `Write` the
-- output is as it was
pub record SignsLines {O : Type 0} (contents : O → Option (List ℕ)) (shared : SharedState)
    (old_input new_input : Option (List ℕ)) (old new : O)
    (before after : Sums) (result : Result Done LinesFault) : Type 0 where
  pub done : IfOk result
      (IsDone shared old_input new_input (contents old) (contents new) before after)
  pub fault : IfErr result
      (IsLinesFault shared old_input new_input (contents old) (contents new) before after)
  pub silent : IfErr result (λ fault. fault ≢ lines.Write → new ≡ old)
