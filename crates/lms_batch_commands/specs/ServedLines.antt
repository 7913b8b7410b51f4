-- That `serve` answers each line of its whole input.
use Rattle.std.specs.Prelude.{◌≡◌, ◌+◌, ◌≤◌, ℕ, List, [], ◌∷◌, ◌++◌, length, Option}
use Rattle.std.specs.List.{AllByRecursion}
use Rattle.std.specs.Io.KnownBytes.{Consumes, IsAtEnd}
use Rattle.lms_hss.specs.declared.key.HssKey.{HssKey as KeyOfCode}
use Rattle.lms_batch.specs.Jobs.{JobText}
use Rattle.lms_batch.specs.Answers.{IsAnswerTo, start_of}
use Rattle.lms_batch.specs.declared.collector.Batch.{Batch}
use Rattle.lms_lines.specs.AnswerLines.{answer_text}
use Rattle.lms_lines.specs.JobsTexts.{AreJobLines}
use Rattle.lms_lines.specs.SignedLines.{signatures_in}
use Rattle.lms_lines.specs.TextLines.{lines_of}
use Rattle.lms_world.specs.Names.{Bytes}
use Rattle.lms_commands.specs.Logs.{WorldCalls}
use Rattle.lms_batch_commands.specs.Serving.{LogsServe}

-- jobs, and the batch that answers them
pub record Served : Type 0 where
  pub key : KeyOfCode
  pub jobs : List JobText
  pub batch : Batch

-- it has the signatures of all of them, by consecutive indices of the key
abbrev pub IsServed : Served → Type 0
IsServed served =
    IsAnswerTo served.key (start_of served.batch) served.jobs served.batch
    × (signatures_in served.batch ≡ length served.jobs)

-- the jobs and the answer lines of all groups, of which the newest is first
abbrev pub jobs_of : List Served → List JobText
jobs_of [] = []
jobs_of (served ∷ earlier) = jobs_of earlier ++ served.jobs

abbrev pub answers_of : List Served → List ℕ
answers_of [] = []
answers_of (served ∷ earlier) = answers_of earlier ++ answer_text served.batch

-- groups, the newest first, are answered by a key's indices one after another, from this one on
abbrev pub AreConsecutive : KeyOfCode → ℕ → List Served → Type 0
AreConsecutive key start [] = Unit {0}
AreConsecutive key start (served ∷ earlier) =
    (served.key ≡ key)
    × (1 ≤ length served.jobs → start_of served.batch ≡ start + length (jobs_of earlier))
    × AreConsecutive key start earlier

-- the input is read to its end, its lines are those of the jobs, one after another, and all are
-- answered in their order, by a key's indices one after another
pub record AnswersLines (input rest : Option (List ℕ)) (before printed : List ℕ) : Type 0 where
  pub text : List ℕ
  pub consumed : Consumes input rest text
  pub at_end : IsAtEnd rest
  pub groups : List Served
  pub served : AllByRecursion IsServed groups
  pub key : KeyOfCode
  pub start : ℕ
  pub consecutive : AreConsecutive key start groups
  pub lines : AreJobLines (lines_of text) (jobs_of groups)
  pub answers : printed ≡ before ++ answers_of groups

-- of `serve` at status 0 that is so
abbrev pub ServesEachLine : Type 0
ServesEachLine = (state workers : Bytes) (input rest : Option (List ℕ)) (before printed : List ℕ)
    (old new : WorldCalls) → LogsServe state workers input rest before printed old new
    → AnswersLines input rest before printed
