-- That `verify` does nothing with a state, by the calls that it makes.
use Rattle.std.proofs.Common.{◌≡◌, ◌∙◌, ℕ, false, List, [], ◌∷◌, Option}
use Rattle.std.proofs.Common.{Ok, ap, refl, inl, inr}
use Rattle.std.specs.List.{list_any}
use Rattle.lms_world.specs.Names.{Bytes}
use Rattle.lms_world.specs.Events.{Opened, Printing, Read}
use Rattle.lms_commands.specs.Histories.{IsTurn}
use Rattle.lms_signature_commands.specs.VerifyTurns.{HandsVerdict}
use Rattle.lms_commands.specs.Histories.{StoresNothing}
use Rattle.lms_commands.specs.Histories.{hands_out, written_in}
use Rattle.lms_commands.specs.Logs.{WorldCalls}
use Rattle.lms_signature_commands.specs.VerifyLogs.{LogsVerify, LogsVerifyFailed}
use Rattle.lms_signature_commands.specs.Verdicts.{line_of}
use Rattle.lms_commands.specs.declared.fault.Fault.{Fault}
use Rattle.lms_signature_commands.specs.declared.verdict.Verdict.{Verdict}
use Rattle.lms_commands.proofs.Turns.{Ends, idle_as, kept_calls, one_more, whole_text}

judged : (public message signature : Bytes) (key : List ℕ) (held : Option (List ℕ)) (signed before : List ℕ)
    (last whole : WorldCalls)
    → last ≡ Read signature (Ok signed) ∷ Opened message (Ok held) ∷ Read public (Ok key) ∷ []
    → whole ≡ Printing before ∷ last
    → IsTurn StoresNothing [] whole × (written_in whole ≡ [])
judged public message signature key held signed before last whole reads calls = (
  one_more whole (Printing before) refl calls (idle_as last _ reads refl refl),
  ap written_in calls ∙ ap written_in reads,
)

pub verify_turn : (public message signature : Bytes) (verdict : Verdict) (before printed : List ℕ) (whole : WorldCalls)
    → LogsVerify public message signature verdict before printed [] whole → Ends HandsVerdict whole before printed
verify_turn public message signature verdict before printed whole
    (key, text, signed, right, (last, held, is_held, reads, calls), line) =
    let turn = judged public message signature key held signed before last whole reads calls in
    (StoresNothing, turn.0, (turn.1, inr (verdict, whole_text before printed (line_of verdict) line)))

unread : (before printed : List ℕ) (whole calls : WorldCalls) → printed ≡ before → whole ≡ calls
    → kept_calls calls ≡ [] → list_any hands_out calls ≡ false
    → written_in calls ≡ [] → Ends HandsVerdict whole before printed
unread before printed whole calls same is none quiet no_file =
    (StoresNothing, idle_as whole calls is none quiet, (ap written_in is ∙ no_file, inl same))

pub verify_failed_turn : (public message signature : Bytes) (before printed : List ℕ) (fault : Fault)
    (whole : WorldCalls)
    → LogsVerifyFailed public message signature before printed fault [] whole → Ends HandsVerdict whole before printed
verify_failed_turn public message signature before printed fault whole (inl (refused, same, inl calls)) =
    unread before printed whole _ same calls refl refl refl
verify_failed_turn public message signature before printed fault whole (inl (refused, same, inr (key, inl calls))) =
    unread before printed whole _ same calls refl refl refl
verify_failed_turn public message signature before printed fault whole
    (inl (refused, same, inr (key, inr (inl (held, calls))))) = unread before printed whole _ same calls refl refl refl
verify_failed_turn public message signature before printed fault whole
    (inl (refused, same, inr (key, inr (inr (signed, calls))))) =
    unread before printed whole _ same calls refl refl refl
verify_failed_turn public message signature before printed fault whole
    (inr (at, (verdict, key, text, signed, right, (last, held, is_held, reads, calls), line))) =
    let turn = judged public message signature key held signed before last whole reads calls in
    (StoresNothing, turn.0, (turn.1, inr (verdict, line)))
