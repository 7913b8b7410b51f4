-- What a service answers to a list of jobs.
use Rattle.std.specs.Prelude.{◌≡◌, ℕ, ◌+◌, ◌<◌, ◌≤◌, ◌↔◌, List, [], Option, Result, Ok, Err, IfOk, IsOk, length, min}
use Rattle.lms_spec.specs.Hss.{capacity_of}
use Rattle.lms_hss.specs.Keys.{hss_key_of}
use Rattle.lms_hss.specs.declared.key.HssKey.{HssKey as KeyOfCode}
use Rattle.lms_book.specs.declared.fault.BookFault.{BookFault}
use Rattle.lms_book.specs.States.{BookState, LeaseState}
use Rattle.lms_book.specs.Books.{ReservesInOrder}
use Rattle.lms_shared_book.specs.Desks.{SharedState, Sums, sums, plus, Counts}
use Rattle.lms_shared_book.specs.Shared.{IsFound}
use Rattle.lms_batch.specs.Jobs.{most_jobs, JobText, texts_of}
use Rattle.lms_batch.specs.Takes.{IsBatchOf}
use Rattle.lms_batch.specs.declared.collector.Batch.{Batch}
use Rattle.lms_batch.specs.declared.collector.Batch.TheVariants.{Complete, Partial}
use Rattle.lms_batch.specs.declared.fault.BatchFault.{BatchFault}
use Rattle.lms_batch.specs.declared.job.Job.{Job}
use Rattle.lms_batch.specs.declared.fault.BatchFault.TheVariants.{TooMany, Book, OutOfMemory}

-- the signatures of all jobs by indices from a start on; or those of some, each in its slot, and an
-- empty slot
abbrev pub IsAnswerTo : KeyOfCode → ℕ → List JobText → Batch → Type 0
IsAnswerTo key start jobs batch =
    (slots : List (Option (List ℕ)))
    × IsBatchOf (record { key = key; start = start; jobs = jobs; slots = slots }) batch

abbrev pub start_of : Batch → ℕ
start_of (Complete start signatures) = start
start_of (Partial start slots) = start

-- the batch of no jobs
abbrev pub IsBatchOfNone : Batch → Type 0
IsBatchOfNone (Complete start signatures) = (start ≡ 0) × (signatures.items ≡ [])
IsBatchOfNone (Partial start slots) = ⊥

-- what a desk counts of a batch of so many jobs: one entry, where there are any, and an index
-- received for each; nothing where there are too many; and what it counts of a reservation that was
-- refused
abbrev pub CountsBatch : ℕ → Sums → Result Batch BatchFault → Sums → Type 0
CountsBatch count old (Ok batch) new = new ≡ plus old (sums (min 1 count) count 0)
CountsBatch count old (Err TooMany) new = (most_jobs < count) × (new ≡ old)
CountsBatch count old (Err (Book fault)) new = Counts count old (Err fault) new
CountsBatch count old (Err (OutOfMemory burnt)) new =
    (burnt ≡ count) × (new ≡ plus old (sums 1 count 0))

-- what is answered where the reservation was answered so: after a lease, a batch that begins with
-- its first index, or that memory is refused and all its indices are burnt; else the fault of the
-- reservation
abbrev pub IsAnswerAfter : Result LeaseState BookFault → Result Batch BatchFault → Type 0
IsAnswerAfter (Ok lease) (Ok batch) = start_of batch ≡ lease.start
IsAnswerAfter (Ok lease) (Err (OutOfMemory burnt)) = burnt ≡ lease.len
IsAnswerAfter (Err refused) (Err (Book fault)) = fault ≡ refused
IsAnswerAfter (Ok lease) (Err TooMany) = ⊥
IsAnswerAfter (Ok lease) (Err (Book fault)) = ⊥
IsAnswerAfter (Err refused) (Ok batch) = ⊥
IsAnswerAfter (Err refused) (Err TooMany) = ⊥
IsAnswerAfter (Err refused) (Err (OutOfMemory burnt)) = ⊥

-- some book that may be found under the lock leads to this answer, where so many indices of it are
-- reserved
abbrev pub CouldBeReserved : SharedState → Sums → ℕ → Result Batch BatchFault → Type 0
CouldBeReserved shared counted count answer =
    (old new : BookState) × (reserved : Result LeaseState BookFault)
    × IsFound shared counted old × ReservesInOrder count old reserved new
    × IsAnswerAfter reserved answer

-- what a service answers to these jobs, over a shared book, at a desk that counted so much before
-- and counts so much after
pub record SignsBatch (shared : SharedState) (jobs : List Job) (before : Sums)
    (result : Result Batch BatchFault) (after : Sums) : Type 0 where
  pub answer : IfOk result (λ batch.
      IsAnswerTo shared.book.key (start_of batch) (texts_of jobs) batch)
  pub within : IfOk result (λ batch.
      start_of batch + length jobs ≤ capacity_of (hss_key_of shared.book.key))
  pub none : length jobs ≡ 0 → IsOk result × IfOk result IsBatchOfNone
  pub too_many : (result ≡ Err TooMany) ↔ (most_jobs < length jobs)
  pub desk : CountsBatch (length jobs) before result after
  pub lawful : 1 ≤ length jobs → length jobs ≤ most_jobs
      → CouldBeReserved shared before (length jobs) result
