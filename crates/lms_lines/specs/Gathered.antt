-- What the reading of a text has come to.
use Rattle.std.specs.Prelude.{◌≡◌, ◌≢◌, ℕ, ◌+◌, ◌*◌, ◌≤◌, ◌⊎◌, List, [], ◌∷◌, ◌++◌, length, map}
use Rattle.lms_batch.specs.Jobs.{most_jobs, JobText, text_of}
use Rattle.lms_lines.specs.JobLines.{longest_line}
use Rattle.lms_lines.specs.TextLines.{lines_of}
use Rattle.lms_lines.specs.JobsTexts.{AreJobLines, IsFaultOf}
use Rattle.lms_lines.specs.declared.fault.JobsFault.{JobsFault}
use Rattle.lms_lines.specs.declared.fault.JobsFault.TheVariants.{BadJob, OutOfMemory}
use Rattle.lms_lines.specs.declared.gathering.Gathering.{Gathering}

-- no LF is in these bytes
abbrev pub HasNoEnd : List ℕ → Type 0
HasNoEnd [] = Unit {0}
HasNoEnd (x ∷ xs) = (x ≢ 10) × HasNoEnd xs

-- the jobs of the lines so far, and what there is of the next line
pub record Gathered : Type 0 where
  pub jobs : List JobText
  pub line : List ℕ

-- after more of the line
abbrev pub after_part : Gathered → List ℕ → Gathered
after_part g part = record { jobs = g.jobs; line = g.line ++ part }

-- after the end of the line, which gave this job
abbrev pub after_line : Gathered → JobText → Gathered
after_line g job = record { jobs = g.jobs ++ job ∷ []; line = [] }

-- the fault is out of memory, or that the line is bad, for this reason
abbrev pub IsRefusal : Gathered → JobsFault → Type 0 → Type 0
IsRefusal g fault reason = (fault ≡ OutOfMemory) ⊎ ((fault ≡ BadJob (length g.jobs + 1)) × reason)

abbrev pub gathered : Gathering → Gathered
gathered g = record { jobs = map text_of g.jobs.items; line = g.line.items }

-- this is what the bytes so far came to
pub record IsGatheredFrom (done : List ℕ) (g : Gathered) : Type 0 where
  pub lines : List (List ℕ)
  pub good : AreJobLines lines g.jobs
  pub whole : (rest : List ℕ) → lines_of (done ++ rest) ≡ lines ++ lines_of (g.line ++ rest)
  pub one_line : HasNoEnd g.line
  pub short : length g.line ≤ longest_line
  pub count : length g.jobs ≤ most_jobs
  pub full : length g.jobs ≡ most_jobs → g.line ≡ []
  pub size : length done ≤ length g.jobs * (longest_line + 1) + length g.line

-- where the bytes so far came to `old`, they come to `new` with these bytes after them
abbrev pub Advances : Gathered → Gathered → List ℕ → Type 0
Advances old new bytes =
    (done : List ℕ) → IsGatheredFrom done old → IsGatheredFrom (done ++ bytes) new

-- where these bytes come next, whatever follows them, the text has this fault
abbrev pub Fails : Gathered → List ℕ → JobsFault → Type 0
Fails old bytes fault =
    (done rest : List ℕ) → IsGatheredFrom done old → IsFaultOf (done ++ (bytes ++ rest)) fault
