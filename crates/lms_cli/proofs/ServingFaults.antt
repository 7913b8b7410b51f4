-- Why `serve` fails: at a status of 2 at least, by the output, or with lines partly signed.
use Rattle.std.proofs.Common.{[], ◌∷◌, ◌++◌, ◌⊎◌, ◌≡◌, ℕ, List, Option, Some, Bool, ap, append-nil}
use Rattle.std.proofs.Common.{arith, false, inl, inr, length, subst, sym, true}
use Rattle.std.specs.Prelude.{if◌then◌else◌}
use Rattle.lms_lines.specs.TextLines.{lines_of}
use Rattle.lms_lines.specs.declared.fault.JobsFault.{JobsFault}
use Rattle.lms_lines.specs.declared.fault.JobsFault.TheVariants as jobs
use Rattle.lms_commands.specs.Faults.{status_of}
use Rattle.lms_commands.specs.Logs.{KeyState, WorldCalls}
use Rattle.lms_commands.specs.declared.fault.Fault.{Fault}
use Rattle.lms_commands.specs.declared.fault.Fault.TheVariants.{BadJob, Exhausted, OutOfMemory, ReadInput}
use Rattle.lms_commands.specs.declared.fault.Fault.TheVariants.{ReadState, TooManyJobs, WriteOutput}
use Rattle.lms_commands.specs.declared.status.Status.TheVariants.{Negative}
use Rattle.lms_batch_commands.specs.Serving.{AnyState, Due, FailsGroup, FailsToServe, Group, LeavesGroup}
use Rattle.lms_batch_commands.specs.Serving.{LogsGroups, NoState, Only, StopsServing, TriesLines, TriesPiece}
use Rattle.lms_batch_commands.specs.Serving.{UsesGroup, is_bad_state, tried, unopened_fault, unread_fault}
use Rattle.lms_batch_commands.specs.Serving.{whole_text}
use Rattle.lms_cli.proofs.HighFaults.{IsHigh, at, at_unread, at_unwatched, burns, spares}

unopened_high : (due : Due) (cause : Fault) → IsHigh cause → IsHigh (unopened_fault due cause)
unopened_high AnyState cause high = high
unopened_high (Only state) cause high = by_test (is_bad_state cause)
  where
    by_test : (bad : Bool) → IsHigh (if bad then ReadState else cause)
    by_test true = omega arith
    by_test false = high
unopened_high NoState cause high = high

module _ (fault : Fault) where
  -- what `serve` may fail by
  abbrev pub IsUnserved : Type 0
  IsUnserved = IsHigh fault ⊎ ((fault ≡ WriteOutput) ⊎ (status_of fault ≡ Negative))

  -- what one group fails by
  left_fails : (text : List ℕ) (state : KeyState) (old new : WorldCalls) → LeavesGroup text fault state old new
      → IsHigh fault
  left_fails text state old new (inl (unread, _)) = at_unread fault (Some text) unread
  left_fails text state old new (inr (_, jobs, _, _, is)) = spares fault (length jobs) state old new is

  used_fails : (text : List ℕ) (state : KeyState) (before printed : List ℕ) (old new : WorldCalls)
      → UsesGroup text fault state before printed old new → IsUnserved
  used_fails text state before printed old new (inl (_, jobs, _, _, is, _)) =
      inl (burns fault (length jobs) state old new is)
  used_fails text state before printed old new (inr (_, _, _, _, inl (is, _, _))) = inr (inr (ap status_of is))
  used_fails text state before printed old new (inr (_, _, _, _, inr (is, _))) = inr (inl is)

  group_fails : (text : List ℕ) (due next : Due) (before printed : List ℕ) (old new : WorldCalls)
      → FailsGroup text fault due next before printed old new → IsUnserved
  group_fails text due next before printed old new (inl (_, inl (inl (cause, never, is), _))) =
      inl (at fault (unopened_fault due cause) (unopened_high due cause (at_unwatched cause old new never)) is)
  group_fails text due next before printed old new (inl (_, inl (inr (is, _), _))) =
      inl (at fault ReadState (omega arith) is)
  group_fails text due next before printed old new (inl (_, inr (state, _, is, _))) =
      inl (left_fails text state old new is)
  group_fails text due next before printed old new (inr ((state, _, is), _)) =
      used_fails text state before printed old new is

  newest_fails : (text : List ℕ) (earlier : List Group) (due next : Due) (before printed : List ℕ)
      (old new : WorldCalls) → LogsGroups (tried text fault ∷ earlier) due next before printed old new → IsUnserved
  newest_fails text earlier due next before printed old new (between, mid, later_due, more, is) =
      group_fails text later_due next between printed mid new is

  lines_fail : (text : List ℕ) (groups earlier : List Group) (due next : Due) (before printed : List ℕ)
      (old new : WorldCalls) → TriesLines text fault groups
      → LogsGroups (groups ++ earlier) due next before printed old new → IsUnserved
  lines_fail text groups earlier due next before printed old new (inl (same, other)) logs =
      newest_fails text earlier due next before printed old new
      (subst (λ (gs : List Group). LogsGroups (gs ++ earlier) due next before printed old new) same logs)
  lines_fail text groups earlier due next before printed old new
      (inr (left, front, some, is_front, inl (is, same))) logs = inl (at fault (Exhausted 0) (omega arith) is)
  lines_fail text groups earlier due next before printed old new (inr (left, front, some, is_front, inr same)) logs =
      newest_fails front (tried text (Exhausted left) ∷ earlier) due next before printed old new
      (subst (λ (gs : List Group). LogsGroups (gs ++ earlier) due next before printed old new) same logs)

  piece_fails : (count : ℕ) (text : List ℕ) (groups : List Group) (due next : Due) (before printed : List ℕ)
      (old new : WorldCalls) → TriesPiece count text fault groups
      → LogsGroups groups due next before printed old new → IsUnserved
  piece_fails count text groups due next before printed old new (inl (tries, other)) logs =
      lines_fail text groups [] due next before printed old new tries
      (subst (λ (gs : List Group). LogsGroups gs due next before printed old new) (sym (append-nil groups)) logs)
  piece_fails count text groups due next before printed old new (inr (line, first, tries, inl (few, is, same))) logs =
      inl (at fault (BadJob _) (omega arith) is)
  piece_fails count text groups due next before printed old new
      (inr (line, first, tries, inr (some, front, is_front, inl (is, same)))) logs =
      inl (at fault (BadJob _) (omega arith) is)
  piece_fails count text groups due next before printed old new
      (inr (line, first, tries, inr (some, front, is_front, inr (more, again, same)))) logs =
      lines_fail front more first due next before printed old new again
      (subst (λ (gs : List Group). LogsGroups gs due next before printed old new) same logs)

  cut_fails : (count : ℕ) (cause : JobsFault) → fault ≡ unread_fault count cause → IsUnserved
  cut_fails count jobs.Read is = inl (at fault ReadInput (omega arith) is)
  cut_fails count (jobs.BadJob line) is = inl (at fault (BadJob _) (omega arith) is)
  cut_fails count jobs.TooManyJobs is = inl (at fault TooManyJobs (omega arith) is)
  cut_fails count jobs.OutOfMemory is = inl (at fault OutOfMemory (omega arith) is)

  pub unserved : (input rest : Option (List ℕ)) (before printed : List ℕ) (old new : WorldCalls)
      → FailsToServe input rest fault before printed old new → IsUnserved
  unserved input rest before printed old new (inl (next, is, same)) =
      group_fails [] AnyState next before printed old new is
  unserved input rest before printed old new (inr (inl (is, _, _, _))) = inl (at fault OutOfMemory (omega arith) is)
  unserved input rest before printed old new (inr (inr (inl some))) = by_fails some.fails
    where
      by_fails : StopsServing (length (lines_of (whole_text some.texts))) some.until rest some.held fault some.due
          some.between printed some.mid new → IsUnserved
      by_fails (inl (cause, cuts, is, same, none)) = cut_fails _ cause is
      by_fails (inr next) =
          piece_fails _ next.text next.groups some.due next.next some.between printed some.mid new next.tries next.logs
  unserved input rest before printed old new (inr (inr (inr (is, pieces)))) =
      inl (at fault TooManyJobs (omega arith) is)
