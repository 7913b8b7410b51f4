-- What `verify` finds in a world in memory, by its calls.
use Rattle.std.proofs.Common.{◌≡◌, ◌∙◌, ◌∷◌, [], ℕ, List, Option, Some, None, Ok, Err, ap}
use Rattle.std.proofs.Common.{sym, inl, inr, ⊎_elim}
use Rattle.lms_world.specs.Names.{Bytes}
use Rattle.lms_world.specs.Events.{Opened, Printing, Read}
use Rattle.lms_world.specs.Held.{Follows, Held}
use Rattle.lms_commands.specs.Logs.{WorldCalls, read_cause}
use Rattle.lms_signature_commands.specs.VerifyInMemory.{FailsToJudge}
use Rattle.lms_signature_commands.specs.VerifyInMemory.{FailsToJudgeInMemory, Judges, JudgesInMemory}
use Rattle.lms_signature_commands.specs.VerifyLogs.{IsHeld, LogsVerifyFailed}
use Rattle.lms_signature_commands.specs.Verdicts.{IsRightFor}
use Rattle.lms_commands.specs.declared.fault.Fault.{Fault}
use Rattle.lms_signature_commands.specs.declared.verdict.Verdict.{Verdict}
use Rattle.lms_commands.proofs.Telling.{Adds, and_then, read_refused, same_held, told}

-- ---- `verify`

module _ (public message signature : Bytes) {earlier : WorldCalls} (old new : Held) where
  judged : {last now : WorldCalls} (verdict : Verdict) (before key text signed : List ℕ) (held : Option (List ℕ))
      → IsHeld held text → IsRightFor verdict key text signed
      → last ≡ Read signature (Ok signed) ∷ Opened message (Ok held) ∷ Read public (Ok key) ∷ earlier
      → now ≡ Printing before ∷ last → Follows (Some old) earlier (Some new) now
      → Judges public message signature verdict old × (new ≡ old)
  judged {last} verdict before key text signed None is_held right reads calls follows =
      let first = Read signature (Ok signed) ∷ Opened message (Ok None) ∷ Read public (Ok key) ∷ [] in
      let read : Adds earlier last = record { calls = first; are = reads } in
      absurd (told old new (and_then read calls) follows).tell.0.0.1
  judged {last} verdict before key text signed (Some bytes) is_held right reads calls follows =
      let first = Read signature (Ok signed) ∷ Opened message (Ok (Some bytes)) ∷ Read public (Ok key) ∷ [] in
      let read : Adds earlier last = record { calls = first; are = reads } in
      let is = told old new (and_then read calls) follows in (
        record {
          key = key;
          text = text;
          signed = signed;
          key_is = is.tell.0.0.0.1;
          text_is = is.tell.0.0.1 ∙ ap (λ (t : List ℕ). Ok t) (sym is_held);
          signed_is = is.tell.0.1;
          right = right;
        },
        same_held old new is.files is.state is.may_fail is.in_use is.nodes is.nodes_fault is.witness,
      )

  unjudged : (before printed : List ℕ) (fault : Fault) (now : WorldCalls)
      → LogsVerifyFailed public message signature before printed fault earlier now
      → Follows (Some old) earlier (Some new) now
      → FailsToJudge public message signature before printed fault old × (new ≡ old)
  unjudged before printed fault now (inl (refused, same, inl calls)) follows =
      let first = Read public (Err (read_cause fault)) ∷ [] in
      let is = told old new (record { calls = first; are = calls }) follows in
      let why = read_refused fault public old.files refused is.tell.1 in (
        ⊎_elim inl (λ at. inr (inl (at.0, inl at.1))) why,
        same_held old new is.files is.state is.may_fail is.in_use is.nodes is.nodes_fault is.witness,
      )
  unjudged before printed fault now (inl (refused, same, inr (key, inl calls))) follows =
      let first = Opened message (Err (read_cause fault)) ∷ Read public (Ok key) ∷ [] in
      let is = told old new (record { calls = first; are = calls }) follows in
      let why = read_refused fault message old.files refused is.tell.1 in (
        ⊎_elim inl (λ at. inr (inl (at.0, inr (inl at.1)))) why,
        same_held old new is.files is.state is.may_fail is.in_use is.nodes is.nodes_fault is.witness,
      )
  unjudged before printed fault now (inl (refused, same, inr (key, inr (inl (held, calls))))) follows =
      let first = Read signature (Err (read_cause fault)) ∷ Opened message (Ok held) ∷ Read public (Ok key) ∷ [] in
      let is = told old new (record { calls = first; are = calls }) follows in
      let why = read_refused fault signature old.files refused is.tell.1 in (
        ⊎_elim inl (λ at. inr (inl (at.0, inr (inr at.1)))) why,
        same_held old new is.files is.state is.may_fail is.in_use is.nodes is.nodes_fault is.witness,
      )
  unjudged before printed fault now (inl (refused, same, inr (key, inr (inr (signed, calls))))) follows =
      let first = Read signature (Ok signed) ∷ Opened message (Ok None) ∷ Read public (Ok key) ∷ [] in
      absurd (told old new (record { calls = first; are = calls }) follows).tell.0.1
  unjudged before printed fault now
      (inr (at, (verdict, key, text, signed, right, (last, held, is_held, reads, calls), line))) follows =
      let is = judged verdict before key text signed held is_held right reads calls follows in
      (inr (inr (at, (verdict, is.0, line))), is.1)

pub judges_in_memory : JudgesInMemory
judges_in_memory public message signature verdict before printed old new earlier now
    (key, text, signed, right, (last, held, is_held, reads, calls), line) follows =
    judged public message signature old new verdict before key text signed held is_held right reads calls follows

pub fails_to_judge_in_memory : FailsToJudgeInMemory
fails_to_judge_in_memory public message signature before printed fault old new earlier now failed follows =
    unjudged public message signature old new before printed fault now failed follows
