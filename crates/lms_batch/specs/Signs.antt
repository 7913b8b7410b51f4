-- What an open lease answers.
use Rattle.std.specs.Prelude.{◌≡◌, ℕ, ◌+◌, ◌<◌, ◌≤◌, Result, Ok, Err}
use Rattle.lms_pool.specs.declared.call_log.Reply.{Reply}
use Rattle.lms_pool.specs.declared.call_log.Reply.TheVariants as replies
use Rattle.lms_pool.specs.States.{PoolState}
use Rattle.lms_batch.specs.Jobs.{JobText, SignedJob}
use Rattle.lms_batch.specs.declared.fault.SignFault.{SignFault}
use Rattle.lms_batch.specs.declared.fault.SignFault.TheVariants.{Ended, OutOfMemory}

-- the job was signed at this place of the pool's lease
pub record IsReceiptAt (pool : PoolState) (place : ℕ) (job : JobText)
    (signed : SignedJob) : Type 0 where
  pub key : signed.key ≡ pool.key
  pub place_is : signed.place ≡ place
  pub within : place < pool.len
  pub index : signed.index ≡ pool.start + place
  pub job_is : signed.job ≡ job

-- what the claim within a `sign` replied
abbrev pub sign_reply : Result SignedJob SignFault → Reply
sign_reply (Ok signed) = replies.Place signed.place
sign_reply (Err Ended) = replies.Ended
sign_reply (Err (OutOfMemory pass)) = replies.Place pass.place

-- what a refusal says, where the seat had seen so many places taken before and after: all are
-- taken, or a pass of a place that it had not seen taken is handed back
abbrev pub IsSignFault : PoolState → ℕ → ℕ → SignFault → Type 0
IsSignFault pool before after Ended = after ≡ pool.len
IsSignFault pool before after (OutOfMemory pass) = (pass.pool ≡ pool) × (before ≤ pass.place)
