-- Each run of the program is a turn at its state, and no index leaves two.
use Rattle.std.proofs.Common.{◌⊎◌, ◌≡◌, ◌∙◌, ℕ, List, [], ◌∷◌, length, None, Option, String, Global, ap, refl}
use Rattle.std.proofs.Common.{inl, inr}
use Rattle.std.proofs.Common.{⊎_elim, append-nil, subst, sym}
use Rattle.std.specs.Prelude.{AllPairs}
use Rattle.lms_commands.specs.Expectations.{Expected, IsCarriedAlong}
use Rattle.lms_commands.specs.Histories.{AreLinked, AreWholeTurns, Continues, IsEarlier, IsTurn}
use Rattle.lms_commands.specs.Histories.{TakenTurn}
use Rattle.lms_commands.specs.Histories.{Makes, Resumes, Signature, StoresNothing, Turn, Uses, Watches, all_left}
use Rattle.lms_commands.specs.Histories.{turn_signatures, whole_calls}
use Rattle.lms_commands.specs.Histories.{written_in}
use Rattle.lms_batch_commands.specs.ServingTurns.{PrintsInTurns}
use Rattle.lms_commands.specs.Logs.{WorldCalls}
use Rattle.lms_commands.specs.declared.fault.Fault.{Fault}
use Rattle.lms_commands.specs.declared.status.Status.{Status}
use Rattle.lms_commands.proofs.CutTurns.{cut_turns, history_then}
use Rattle.lms_commands.proofs.Histories.{IsHistory, no_index_twice}
use Rattle.lms_key_commands.proofs.PublicTurns.{public_failed_turn, public_turn}
use Rattle.lms_key_commands.proofs.ResumeTurns.{resume_failed_turn, resume_turn}
use Rattle.lms_key_commands.proofs.WitnessTurns.{witness_failed_turn, witness_turn}
use Rattle.lms_batch_commands.proofs.ServingTurns.{fails_in_turns, serves_in_turns}
use Rattle.lms_batch_commands.proofs.BatchTurns.{jobs_failed_turn, jobs_turn}
use Rattle.lms_signature_commands.proofs.SigningTurns.{sign_failed_turn, sign_turn}
use Rattle.lms_commands.proofs.Turns.{idle_as}
use Rattle.lms_key_commands.proofs.KeyTurns.{info_failed_turn, info_turn, keygen_failed_turn, keygen_turn}
use Rattle.lms_signature_commands.proofs.VerifyTurns.{verify_failed_turn, verify_turn}
use Rattle.lms_endorse.proofs.EndorseTurns.{endorse_failed_turn, endorse_turn}
use Rattle.lms_inspect.proofs.InspectTurns.{inspect_failed_turn, inspect_turn}
use Rattle.lms_join_commands.proofs.JoinTurns.{join_failed_turn, join_keys_failed_turn, join_keys_turn, join_turn}
use Rattle.lms_command_line.specs.Commands.{AreTakenAs, AsksForHelp}
use Rattle.lms_cli.specs.Deeds.{deed}
use Rattle.lms_cli.specs.RunLogs.{LogsRun}
use Rattle.lms_cli.specs.RunTurns.{ProgramRun, TakesTurns, TakeTurns, all_turns}
use Rattle.lms_command_line.specs.declared.command.types.Command.{Command}
use Rattle.lms_command_line.specs.declared.command.types.Command.TheVariants.{Batch, Endorse, Info, Inspect}
use Rattle.lms_command_line.specs.declared.command.types.Command.TheVariants.{Join, JoinPublic, Keygen}
use Rattle.lms_command_line.specs.declared.command.types.Command.TheVariants.{Public, Resume, Serve, Sign, Verify, Witness}

-- a command in its turns
record Obeyed (command : Command) (whole : WorldCalls) (before printed : List ℕ) : Type 0 where
  turns : List TakenTurn
  calls : whole_calls turns ≡ whole
  are : AreWholeTurns turns
  linked : AreLinked None turns
  one : (length turns ≡ 1) ⊎ (deed command).may.serves
  hands : (deed command).hands (turn_signatures turns) whole before printed

-- a turn that is the first
starts : (turn : Turn) → Continues turn None
starts StoresNothing = tt
starts (Makes key) = tt
starts (Uses count state text watch) = tt
starts (Watches state text) = tt
starts (Resumes count state watch) = tt

-- in one
once : (command : Command) (whole : WorldCalls) (before printed : List ℕ) → (turn : Turn)
    × (signatures : List Signature) × IsTurn turn signatures whole
    × (deed command).hands signatures whole before printed
    → Obeyed command whole before printed
once command whole before printed (turn, signatures, is, hands) = record {
  turns = record { turn = turn; due = None; signatures = signatures; whole = whole; begun = whole } ∷ [];
  calls = refl;
  are = (is, tt);
  linked = (refl, starts turn, tt);
  one = inl refl;
  hands = subst (λ (ones : List Signature). (deed command).hands ones whole before printed)
      (sym (append-nil signatures)) hands;
}

-- by `serve`
served : (state workers : String Global) (whole : WorldCalls) (before printed : List ℕ)
    → PrintsInTurns before printed whole → Obeyed (Serve state workers) whole before printed
served state workers whole before printed (turns, calls, are, linked, prints) =
    record { turns = turns; calls = calls; are = are; linked = linked; one = inr tt; hands = prints }

-- a command that is done
obeyed : (command : Command) (end : Status) (input rest : Option (List ℕ)) (before printed : List ℕ)
    (whole : WorldCalls)
    → (deed command).done end input rest before printed [] whole → Obeyed command whole before printed
obeyed (Keygen levels seed id state public) end input rest before printed whole (done, (key, is_key, is)) =
    let turn = keygen_turn key _ _ before printed whole is in
    once (Keygen levels seed id state public) whole before printed (turn.0, [], turn.1, (refl, turn.2))
obeyed (Info state) end input rest before printed whole (done, is) =
    let turn = info_turn _ before printed whole is in
    once (Info state) whole before printed (turn.0, [], turn.1, (refl, turn.2))
obeyed (Inspect file) end input rest before printed whole is =
    let turn = inspect_turn _ end before printed whole is in
    once (Inspect file) whole before printed (turn.0, [], turn.1, (refl, turn.2))
obeyed (Public state public) end input rest before printed whole (done, is) =
    let turn = public_turn _ _ before printed whole is in
    once (Public state public) whole before printed (turn.0, [], turn.1, (refl, turn.2))
obeyed (Sign state random message out) end input rest before printed whole (done, is) =
    once (Sign state random message out) whole before printed (sign_turn _ before printed whole is)
obeyed (Endorse state random signer joined out) end input rest before printed whole (done, is) =
    once (Endorse state random signer joined out) whole before printed (endorse_turn _ before printed whole is)
obeyed (Batch state workers) end input rest before printed whole (done, is) =
    once (Batch state workers) whole before printed (jobs_turn _ _ input rest before printed whole is)
obeyed (Serve state workers) end input rest before printed whole (done, is) =
    served state workers whole before printed (serves_in_turns _ _ input rest before printed whole is)
obeyed (Witness state on counter) end input rest before printed whole (done, is) =
    let turn = witness_turn _ _ _ before printed whole is in
    once (Witness state on counter) whole before printed (turn.0, [], turn.1, (refl, turn.2))
obeyed (Resume state counter) end input rest before printed whole (done, is) =
    let turn = resume_turn _ _ before printed whole is in
    once (Resume state counter) whole before printed (turn.0, [], turn.1, (refl, turn.2))
obeyed (Verify public message signature) end input rest before printed whole (verdict, at, is) =
    let turn = verify_turn _ _ _ verdict before printed whole is in
    once (Verify public message signature) whole before printed (turn.0, [], turn.1, (refl, turn.2))
obeyed (Join public endorsement signer signature out) end input rest before printed whole (done, same, is) =
    let turn = join_turn _ before printed same whole is in
    once (Join public endorsement signer signature out) whole before printed (turn.0, [], turn.1, (refl, turn.2))
obeyed (JoinPublic public signer out) end input rest before printed whole (done, same, is) =
    let turn = join_keys_turn _ _ _ before printed same whole is in
    once (JoinPublic public signer out) whole before printed (turn.0, [], turn.1, (refl, turn.2))

-- one that fails
failed : (command : Command) (fault : Fault) (input rest : Option (List ℕ)) (before printed : List ℕ)
    (whole : WorldCalls)
    → (deed command).failed fault input rest before printed [] whole → Obeyed command whole before printed
failed (Keygen levels seed id state public) fault input rest before printed whole (inl (no_key, calls, same)) =
    once (Keygen levels seed id state public) whole before printed
    (StoresNothing, [], idle_as whole [] calls refl refl, (refl, inl (ap written_in calls, same)))
failed (Keygen levels seed id state public) fault input rest before printed whole (inr (key, is_key, is)) =
    let turn = keygen_failed_turn key _ _ before printed fault whole is in
    once (Keygen levels seed id state public) whole before printed (turn.0, [], turn.1, (refl, turn.2))
failed (Info state) fault input rest before printed whole is =
    let turn = info_failed_turn _ before printed fault whole is in
    once (Info state) whole before printed (turn.0, [], turn.1, (refl, turn.2))
failed (Inspect file) fault input rest before printed whole is =
    let turn = inspect_failed_turn _ fault before printed whole is in
    once (Inspect file) whole before printed (turn.0, [], turn.1, (refl, turn.2))
failed (Public state public) fault input rest before printed whole is =
    let turn = public_failed_turn _ _ before printed fault whole is in
    once (Public state public) whole before printed (turn.0, [], turn.1, (refl, turn.2))
failed (Sign state random message out) fault input rest before printed whole is =
    once (Sign state random message out) whole before printed (sign_failed_turn _ before printed fault whole is)
failed (Endorse state random signer joined out) fault input rest before printed whole is =
    once (Endorse state random signer joined out) whole before printed
    (endorse_failed_turn _ before printed fault whole is)
failed (Batch state workers) fault input rest before printed whole is =
    once (Batch state workers) whole before printed (jobs_failed_turn _ _ input rest before printed fault whole is)
failed (Serve state workers) fault input rest before printed whole is =
    served state workers whole before printed (fails_in_turns _ _ input rest before printed fault whole is)
failed (Witness state on counter) fault input rest before printed whole is =
    let turn = witness_failed_turn _ _ _ before printed fault whole is in
    once (Witness state on counter) whole before printed (turn.0, [], turn.1, (refl, turn.2))
failed (Resume state counter) fault input rest before printed whole is =
    let turn = resume_failed_turn _ _ before printed fault whole is in
    once (Resume state counter) whole before printed (turn.0, [], turn.1, (refl, turn.2))
failed (Verify public message signature) fault input rest before printed whole is =
    let turn = verify_failed_turn _ _ _ before printed fault whole is in
    once (Verify public message signature) whole before printed (turn.0, [], turn.1, (refl, turn.2))
failed (Join public endorsement signer signature out) fault input rest before printed whole (same, is) =
    let turn = join_failed_turn _ before printed same fault whole is in
    once (Join public endorsement signer signature out) whole before printed (turn.0, [], turn.1, (refl, turn.2))
failed (JoinPublic public signer out) fault input rest before printed whole (same, is) =
    let turn = join_keys_failed_turn _ _ _ before printed same fault whole is in
    once (JoinPublic public signer out) whole before printed (turn.0, [], turn.1, (refl, turn.2))

-- the turns of a run
abbrev TurnsOf : ProgramRun → Type 0
TurnsOf run = (turns : List TakenTurn) × TakesTurns run turns

turns_of_run : (run : ProgramRun) → TurnsOf run
turns_of_run run = by_log run.logged
  where
    idle : run.whole ≡ [] → AsksForHelp run.words ⊎ (run.printed ≡ run.before) → TurnsOf run
    idle same quiet = (
      record { turn = StoresNothing; due = None; signatures = []; whole = run.whole; begun = run.begun } ∷ [],
      record {
        whole = refl;
        begun = refl;
        are_turns = (idle_as run.whole [] same refl refl, run.first, inr refl, tt);
        linked = (refl, tt, tt);
        one = inl refl;
        hands = inl (same, refl, quiet);
      },
    )

    obeys : (command : Command) → AreTakenAs run.words command
        → Obeyed command run.whole run.before run.printed → TurnsOf run
    obeys command taken is =
        let cut = cut_turns is.turns run.first.0 run.begun is.are (is.calls ∙ run.first.1) in (
          cut.cut,
          record {
            whole = cut.whole ∙ is.calls;
            begun = cut.begun_is;
            are_turns = cut.are;
            linked = cut.linked None is.linked;
            one = ⊎_elim (λ (one : length is.turns ≡ 1). inl (cut.count ∙ one))
                (λ (serves : (deed command).may.serves). inr (command, taken, serves)) is.one;
            hands = inr (
              command,
              taken,
              subst (λ (ones : List Signature). (deed command).hands ones run.whole run.before run.printed)
                  (sym cut.signatures) is.hands,
            );
          },
        )

    by_log : LogsRun run.words run.end run.input run.rest run.before run.printed run.errors_before run.errors_after []
        run.whole → TurnsOf run
    by_log (inl (inl (same, inl help), told)) = idle same (inl help.0)
    by_log (inl (inl (same, inr mistaken), told)) = idle same (inr mistaken.2)
    by_log (inl (inr (command, taken, is), told)) =
        obeys command taken (obeyed command run.end run.input run.rest run.before run.printed run.whole is)
    by_log (inr (fault, at, grown, inl (same, inl refused))) = idle same (inr refused.1)
    by_log (inr (fault, at, grown, inl (same, inr help))) = idle same (inl help.0)
    by_log (inr (fault, at, grown, inr (command, taken, is))) =
        obeys command taken (failed command fault run.input run.rest run.before run.printed run.whole is)

turns_of : (runs : List ProgramRun) → (turns : List (List TakenTurn)) × TakeTurns runs turns
turns_of [] = ([], tt)
turns_of (run ∷ runs) = let one = turns_of_run run in let all = turns_of runs in (one.0 ∷ all.0, (one.1, all.1))

histories : (runs : List ProgramRun) (turns : List (List TakenTurn)) → TakeTurns runs turns
    → (known : Option (List ℕ)) (held : Expected) → IsCarriedAlong held (all_turns turns)
    → IsHistory known held (all_turns turns)
histories [] [] take known held carried = tt
histories [] (turns ∷ more) take known held carried = absurd take
histories (run ∷ runs) [] take known held carried = absurd take
histories (run ∷ runs) (turns ∷ more) (one, all) known held carried =
    history_then turns (all_turns more) None known held one.are_turns one.linked (inl (inr refl)) carried
    (λ known held. histories runs more all known held)

pub no_index_leaves : (runs : List ProgramRun)
    → (turns : List (List TakenTurn)) × TakeTurns runs turns
    × ((held : Expected) → IsCarriedAlong held (all_turns turns) → AllPairs IsEarlier (all_left (all_turns turns)))
no_index_leaves runs =
    let all = turns_of runs in (
      all.0,
      all.1,
      λ held carried. no_index_twice None held (all_turns all.0) (histories runs all.0 all.1 None held carried),
    )
