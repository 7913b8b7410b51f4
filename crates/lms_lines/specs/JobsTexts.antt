-- Texts of job lines: their jobs, or their fault.
use Rattle.std.specs.Prelude.{◌≡◌, ℕ, ◌+◌, ◌<◌, ◌≤◌, List, [], ◌∷◌, ◌++◌, length, Option}
use Rattle.std.specs.Io.KnownBytes.{Consumes, IsAtEnd}
use Rattle.lms_batch.specs.Jobs.{most_jobs, JobText}
use Rattle.lms_lines.specs.JobLines.{IsJobLine}
use Rattle.lms_lines.specs.TextLines.{lines_of}
use Rattle.lms_lines.specs.declared.fault.JobsFault.{JobsFault}
use Rattle.lms_lines.specs.declared.fault.JobsFault.TheVariants.{Read, BadJob, TooManyJobs, OutOfMemory}

-- each line is that of the job at its place
abbrev pub AreJobLines : List (List ℕ) → List JobText → Type 0
AreJobLines [] [] = Unit {0}
AreJobLines (line ∷ lines) (job ∷ jobs) = IsJobLine line job × AreJobLines lines jobs
AreJobLines [] (job ∷ jobs) = ⊥
AreJobLines (line ∷ lines) [] = ⊥

-- every line is a job line, and there are no more than a batch may have
pub record IsJobsText (text : List ℕ) (jobs : List JobText) : Type 0 where
  pub each : AreJobLines (lines_of text) jobs
  pub count : length jobs ≤ most_jobs

-- this line, counted from 1, is no job line, and all before it, fewer than a batch may have, are
pub record IsFirstBadLine (text : List ℕ) (number : ℕ) : Type 0 where
  pub before : List (List ℕ)
  pub bad : List ℕ
  pub after : List (List ℕ)
  pub jobs : List JobText
  pub parts : lines_of text ≡ before ++ bad ∷ after
  pub good : AreJobLines before jobs
  pub is_bad : (job : JobText) → ¬ IsJobLine bad job
  pub place : number ≡ length jobs + 1
  pub count : length jobs < most_jobs

-- as many lines as a batch may have are job lines, and another follows
pub record HasTooManyJobs (text : List ℕ) : Type 0 where
  pub before : List (List ℕ)
  pub next : List ℕ
  pub after : List (List ℕ)
  pub jobs : List JobText
  pub parts : lines_of text ≡ before ++ next ∷ after
  pub good : AreJobLines before jobs
  pub count : length jobs ≡ most_jobs

-- the text has this fault; nothing is said of a failed reader and of out of memory
abbrev pub IsFaultOf : List ℕ → JobsFault → Type 0
IsFaultOf text Read = Unit {0}
IsFaultOf text (BadJob line) = IsFirstBadLine text line
IsFaultOf text TooManyJobs = HasTooManyJobs text
IsFaultOf text OutOfMemory = Unit {0}

-- the reader gave a text to its end, and these are its jobs
pub record ReadsJobs (old new : Option (List ℕ)) (jobs : List JobText) : Type 0 where
  pub text : List ℕ
  pub consumed : Consumes old new text
  pub at_end : IsAtEnd new
  pub is_text : IsJobsText text jobs
