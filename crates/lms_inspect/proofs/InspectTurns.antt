-- That `inspect` does nothing with a state, by the calls that it makes; and what leaves it.
use Rattle.std.proofs.Common.{◌≡◌, ◌∙◌, ℕ, false, List, [], ◌∷◌, Option, Ok, ap, refl, inl, inr}
use Rattle.std.specs.List.{list_any}
use Rattle.lms_world.specs.Names.{Bytes}
use Rattle.lms_world.specs.Events.{Opened, Printing}
use Rattle.lms_commands.specs.Histories.{IsTurn, Prints, StoresNothing, hands_out, written_in}
use Rattle.lms_commands.specs.Logs.{WorldCalls}
use Rattle.lms_commands.specs.declared.fault.Fault.{Fault}
use Rattle.lms_commands.specs.declared.status.Status.{Status}
use Rattle.lms_commands.proofs.Turns.{Ends, idle_as, kept_calls, one_more, whole_text}
use Rattle.lms_inspect.specs.InspectLogs.{Inspects, LogsInspect, LogsInspectFailed, LooksAtWitness, LooksInVain}
use Rattle.lms_inspect.specs.InspectLogs.{inspected_text}
use Rattle.lms_inspect.specs.InspectTurns.{HandsDescription}
use Rattle.lms_inspect.specs.declared.found.Found.{Found}
use Rattle.lms_inspect.specs.declared.found.Found.TheVariants.{State, Public, Signature, Nothing}

-- nothing is done with a state, and nothing leaves
abbrev Idle : WorldCalls → Type 0
Idle calls = IsTurn StoresNothing [] calls × (written_in calls ≡ [])

idle : (whole calls : WorldCalls) → whole ≡ calls → kept_calls calls ≡ [] → list_any hands_out calls ≡ false
    → written_in calls ≡ [] → Idle whole
idle whole calls is none quiet no_file = (idle_as whole calls is none quiet, ap written_in is ∙ no_file)

looked : (file : Bytes) (held : Option (List ℕ)) (found : Found) (witness : Option ℕ) (last : WorldCalls)
    → LooksAtWitness found witness (Opened file (Ok held) ∷ []) last → Idle last
looked file held (State image) witness last (seen, calls, says) = idle last _ calls refl refl refl
looked file held (Public parts) witness last (calls, none) = idle last _ calls refl refl refl
looked file held (Signature parts) witness last (calls, none) = idle last _ calls refl refl refl
looked file held Nothing witness last (calls, none) = idle last _ calls refl refl refl

in_vain : (file : Bytes) (held : Option (List ℕ)) (found : Found) (fault : Fault) (whole : WorldCalls)
    → LooksInVain found fault (Opened file (Ok held) ∷ []) whole → Idle whole
in_vain file held (State image) fault whole (inl (inl (at, calls))) = idle whole _ calls refl refl refl
in_vain file held (State image) fault whole (inl (inr (at, calls))) = idle whole _ calls refl refl refl
in_vain file held (State image) fault whole (inr (at, (text, calls, none))) = idle whole _ calls refl refl refl
in_vain file held (Public parts) fault whole never = absurd never
in_vain file held (Signature parts) fault whole never = absurd never
in_vain file held Nothing fault whole never = absurd never

module _ (file : Bytes) (before printed : List ℕ) (whole : WorldCalls) where
  unsaid : printed ≡ before → Idle whole → Ends HandsDescription whole before printed
  unsaid same is = (StoresNothing, is.0, (is.1, inl same))

  said : (last : WorldCalls) (inspects : Inspects file [] last) → whole ≡ Printing before ∷ last
      → Prints before printed (inspected_text inspects) → Ends HandsDescription whole before printed
  said last inspects calls text =
      let is = looked file inspects.held inspects.found inspects.witness last inspects.looks in (
        StoresNothing,
        one_more whole (Printing before) refl calls is.0,
        (ap written_in calls ∙ is.1, inr (inspects.bytes, inspects.found, inspects.witness, inspects.is, text)),
      )

pub inspect_turn : (file : Bytes) (end : Status) (before printed : List ℕ) (whole : WorldCalls)
    → LogsInspect file end before printed [] whole → Ends HandsDescription whole before printed
inspect_turn file end before printed whole (last, inspects, end_is, text, calls) =
    said file before printed whole last inspects calls (whole_text before printed (inspected_text inspects) text)

pub inspect_failed_turn : (file : Bytes) (fault : Fault) (before printed : List ℕ) (whole : WorldCalls)
    → LogsInspectFailed file fault before printed [] whole → Ends HandsDescription whole before printed
inspect_failed_turn file fault before printed whole (inl (same, inl (refused, calls))) =
    unsaid file before printed whole same (idle whole _ calls refl refl refl)
inspect_failed_turn file fault before printed whole (inl (same, inr (inl (refused, calls)))) =
    unsaid file before printed whole same (idle whole _ calls refl refl refl)
inspect_failed_turn file fault before printed whole (inl (same, inr (inr (inl (at, (held, calls)))))) =
    unsaid file before printed whole same (idle whole _ calls refl refl refl)
inspect_failed_turn file fault before printed whole (inl (same, inr (inr (inr (inl (at, inspects)))))) =
    unsaid file before printed whole same
    (looked file inspects.held inspects.found inspects.witness whole inspects.looks)
inspect_failed_turn file fault before printed whole
    (inl (same, inr (inr (inr (inr (held, bytes, is_held, found, is, never)))))) =
    unsaid file before printed whole same (in_vain file held found fault whole never)
inspect_failed_turn file fault before printed whole (inr (at, (last, inspects, calls, text))) =
    said file before printed whole last inspects calls text
