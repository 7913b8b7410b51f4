-- The lines of the pieces of an input are those of the whole, and each is answered.
use Rattle.std.proofs.Common.{◌≡◌, ◌≢◌, ◌⊎◌, ◌∙◌, ◌+◌, ◌≤◌, ℕ, List, [], ◌∷◌, ◌++◌, map, Option, None, Some, ap, sym}
use Rattle.std.proofs.Common.{append-nil, append_assoc, arith, length, length-append, refl, subst}
use Rattle.std.specs.List.{AllByRecursion}
use Rattle.std.specs.Io.KnownBytes.{Consumes, IsAtEnd}
use Rattle.lms_hss.specs.declared.key.HssKey.{HssKey as KeyOfCode}
use Rattle.lms_batch.specs.Answers.{start_of}
use Rattle.lms_batch.specs.declared.collector.Batch.{Batch}
use Rattle.lms_batch.specs.Jobs.{JobText}
use Rattle.lms_lines.specs.AnswerLines.{answer_text}
use Rattle.lms_lines.specs.JobsTexts.{AreJobLines, ReadsJobs}
use Rattle.lms_lines.specs.Pieces.{EndsLine}
use Rattle.lms_lines.specs.TextLines.{lines_of}
use Rattle.lms_lines.proofs.Cutting.{lines-both-or}
use Rattle.lms_commands.specs.Logs.{KeyState, WorldCalls}
use Rattle.lms_batch_commands.specs.ServedLines.{AreConsecutive, IsServed, Served, ServesEachLine, answers_of}
use Rattle.lms_batch_commands.specs.ServedLines.{jobs_of}
use Rattle.lms_batch_commands.specs.Serving.{AnswersGroup, AnyState, AreWhole, Due, IsDue, LogsGroups, NoState}
use Rattle.lms_batch_commands.specs.Serving.{Only, answered, having_used, whole_text}
use Rattle.lms_batch_commands.proofs.Serving.{whole_ends}

job_lines_both : (lines more : List (List ℕ)) (jobs others : List JobText) → AreJobLines lines jobs
    → AreJobLines more others → AreJobLines (lines ++ more) (jobs ++ others)
job_lines_both [] more [] others good other = other
job_lines_both [] more (job ∷ jobs) others good other = absurd good
job_lines_both (line ∷ lines) more [] others good other = absurd good
job_lines_both (line ∷ lines) more (job ∷ jobs) others good other =
    (good.0, job_lines_both lines more jobs others good.1 other)

-- jobs that were read of a known text are those of the whole text
whole_jobs : (text : List ℕ) (rest : Option (List ℕ)) (jobs : List JobText) → ReadsJobs (Some text) rest jobs
    → AreJobLines (lines_of text) jobs
whole_jobs text rest jobs reads = by_rest rest reads.consumed reads.at_end
  where
    by_rest : (rest : Option (List ℕ)) → Consumes (Some text) rest reads.text → IsAtEnd rest
        → AreJobLines (lines_of text) jobs
    by_rest None never end = absurd never
    by_rest (Some left) parts end =
        subst (λ (t : List ℕ). AreJobLines (lines_of t) jobs)
        (sym (parts ∙ ap (λ (l : List ℕ). reads.text ++ l) end ∙ append-nil reads.text)) reads.is_text.each

-- the groups so far are answered by one index after another, up to that of the state that is due
abbrev IsCountedBy : Due → List Served → Type 0
IsCountedBy AnyState groups = groups ≡ []
IsCountedBy (Only state) groups =
    (start : ℕ) × (state.index ≡ start + length (jobs_of groups)) × AreConsecutive state.key start groups
IsCountedBy NoState groups = ⊥

one_counted : (due : Due) (state : KeyState) (batch : Batch) (jobs : List JobText) (groups : List Served)
    → IsCountedBy due groups → IsDue due state → (1 ≤ length jobs → start_of batch ≡ state.index)
    → IsCountedBy (Only (having_used (length jobs) state))
    (record { key = state.key; jobs = jobs; batch = batch } ∷ groups)
one_counted due state batch jobs groups were was next = by_jobs jobs next (counted due were was)
  where
    counted : (due : Due) → IsCountedBy due groups → IsDue due state
        → (start : ℕ) × (state.index ≡ start + length (jobs_of groups)) × AreConsecutive state.key start groups
    counted AnyState none was =
        subst (λ (gs : List Served). (start : ℕ) × (state.index ≡ start + length (jobs_of gs))
        × AreConsecutive state.key start gs) (sym none) (state.index, omega arith, tt)
    counted (Only other) were was =
        subst (λ (s : KeyState). (start : ℕ) × (s.index ≡ start + length (jobs_of groups))
        × AreConsecutive s.key start groups) (sym was) were
    counted NoState were was = absurd were

    by_jobs : (jobs : List JobText) → (1 ≤ length jobs → start_of batch ≡ state.index)
        → (start : ℕ) × (state.index ≡ start + length (jobs_of groups)) × AreConsecutive state.key start groups
        → IsCountedBy (Only (having_used (length jobs) state))
        (record { key = state.key; jobs = jobs; batch = batch } ∷ groups)
    by_jobs [] next (start, at, are) = (
      start,
      at ∙ ap (λ (js : List JobText). start + length js) (sym (append-nil (jobs_of groups))),
      (refl, (λ some. absurd (omega (arith, some))), are),
    )
    by_jobs (job ∷ jobs) next (start, at, are) = (
      start,
      omega (arith, at, length-append (jobs_of groups) (job ∷ jobs)),
      (refl, (λ some. next some ∙ at), are),
    )

-- what pieces come to
record Comes (texts : List (List ℕ)) (due : Due) (before printed : List ℕ) : Type 0 where
  groups : List Served
  counted : IsCountedBy due groups
  served : AllByRecursion IsServed groups
  lines : AreJobLines (lines_of (whole_text texts)) (jobs_of groups)
  answers : printed ≡ before ++ answers_of groups

no_lines : AreJobLines (lines_of []) []
unfolding lines_of
no_lines = tt

one_more : (texts : List (List ℕ)) (text : List ℕ) (due next : Due) (before between printed : List ℕ)
    (mid new : WorldCalls) → (whole_text texts ≡ []) ⊎ EndsLine (whole_text texts) → Comes texts due before between
    → AnswersGroup text due next between printed mid new → Comes (text ∷ texts) next before printed
one_more texts text due next before between printed mid new whole is
    (rest, count, (batch, answers, count_is, asked_is, lines), was, next_is) = record {
      groups = record { key = answers.signs.state.key; jobs = answers.signs.jobs; batch = batch } ∷ is.groups;
      counted = subst
          (λ (d : Due). IsCountedBy d
          (record { key = answers.signs.state.key; jobs = answers.signs.jobs; batch = batch } ∷ is.groups))
          (sym (next_is ∙ ap (λ (n : ℕ). Only (having_used n answers.signs.state)) asked_is))
          (one_counted due answers.signs.state batch answers.signs.jobs is.groups is.counted was answers.signs.next);
      served = ((answers.signs.answer, sym count_is ∙ asked_is), is.served);
      lines = subst (λ (ls : List (List ℕ)). AreJobLines ls (jobs_of is.groups ++ answers.signs.jobs))
          (sym (lines-both-or (whole_text texts) text whole))
          (job_lines_both _ _ _ _ is.lines (whole_jobs text rest answers.signs.jobs answers.signs.read));
      answers = lines ∙ ap (λ (t : List ℕ). t ++ answer_text batch) is.answers
          ∙ append_assoc before (answers_of is.groups) (answer_text batch);
    }

comes : (texts : List (List ℕ)) (due : Due) (before printed : List ℕ) (old new : WorldCalls) → AreWhole texts
    → LogsGroups (map answered texts) AnyState due before printed old new → Comes texts due before printed
comes [] due before printed old new whole (same, none, is) = record {
  groups = [];
  counted = subst (λ (d : Due). IsCountedBy d []) (sym is) refl;
  served = tt;
  lines = no_lines;
  answers = same ∙ sym (append-nil before);
}
comes (text ∷ texts) due before printed old new whole (between, mid, later_due, logs, one) =
    one_more texts text later_due due before between printed mid new (whole_ends texts whole.1)
    (comes texts later_due before between old mid whole.1 logs) one

-- by which key, and from which index on
from_start : (due : Due) (groups : List Served) → IsCountedBy due groups → due ≢ AnyState
    → (key : KeyOfCode) × (start : ℕ) × AreConsecutive key start groups
from_start AnyState groups were some = absurd (some refl)
from_start (Only state) groups (start, at, are) some = (state.key, start, are)
from_start NoState groups were some = absurd were

pub serves_each_line : ServesEachLine
serves_each_line state workers input rest before printed old new (last, is, calls, are) =
    let (between, mid, later_due, logs, one) = is.logs in
    let all = one_more is.earlier is.last later_due is.next before between printed mid last
    (whole_ends is.earlier is.whole)
    (comes is.earlier later_due before between _ mid is.whole logs) one in
    let from = from_start is.next all.groups all.counted (λ any. cc (sym one.4 ∙ any)) in
    record {
      text = whole_text (is.last ∷ is.earlier);
      consumed = is.consumed;
      at_end = is.at_end;
      groups = all.groups;
      served = all.served;
      key = from.0;
      start = from.1;
      consecutive = from.2;
      lines = all.lines;
      answers = all.answers;
    }
