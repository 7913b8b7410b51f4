-- That a text has an outcome, and one alone.
use Rattle.std.specs.Prelude.{◌≡◌, ◌⊎◌, ℕ, List}
use Rattle.lms_batch.specs.Jobs.{JobText}
use Rattle.lms_lines.specs.JobsTexts.{IsJobsText, IsFirstBadLine, HasTooManyJobs}

-- a text has at most one of these: its jobs, its first bad line, or that its jobs are too many
pub record HasOneOutcome (text : List ℕ) : Type 0 where
  pub same_jobs : (a b : List JobText) → IsJobsText text a → IsJobsText text b → a ≡ b
  pub same_line : (m n : ℕ) → IsFirstBadLine text m → IsFirstBadLine text n → m ≡ n
  pub jobs_or_bad : (jobs : List JobText) (n : ℕ) → IsJobsText text jobs → ¬ IsFirstBadLine text n
  pub jobs_or_many : (jobs : List JobText) → IsJobsText text jobs → ¬ HasTooManyJobs text
  pub bad_or_many : (n : ℕ) → IsFirstBadLine text n → ¬ HasTooManyJobs text

abbrev pub OutcomesAreOne : Type 0
OutcomesAreOne = (text : List ℕ) → HasOneOutcome text

-- a text has its jobs, or a first bad line, or too many jobs
abbrev pub HasSomeOutcome : List ℕ → Type 0
HasSomeOutcome text =
    ((jobs : List JobText) × IsJobsText text jobs)
    ⊎ (((n : ℕ) × IsFirstBadLine text n) ⊎ HasTooManyJobs text)

abbrev pub EveryTextHasAnOutcome : Type 0
EveryTextHasAnOutcome = (text : List ℕ) → HasSomeOutcome text
