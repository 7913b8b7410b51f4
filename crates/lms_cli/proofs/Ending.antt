-- How a run ends, by the command and by the fault.
use Rattle.std.proofs.Common.{append-nil, sym, [], Option, ◌⊎◌, ◌≡◌, ◌∙◌, ◌<◌, ◌≤◌, ℕ, List, Result, Ok, Err, ap, subst}
use Rattle.std.proofs.Common.{Bool, false, true, inl, inr, length, ⊎_elim, arith}
use Rattle.std.specs.Prelude.{OnErr, OnOk}
use Rattle.std.specs.Io.KnownBytes.{Appends}
use Rattle.lms_blocks.specs.Writing.{AppendsFront}
use Rattle.lms_hss.specs.declared.key.HssKey.{HssKey as KeyOfCode}
use Rattle.clap.specs.Words.{Text}
use Rattle.lms_batch_commands.specs.BatchLogs.{LogsUnanswered}
use Rattle.lms_commands.specs.Faults.{of_seed, status_number, status_of}
use Rattle.lms_key_commands.specs.Keygen.{AreNoLevels, IsNoKey}
use Rattle.lms_key_commands.specs.KeygenLogs.{LogsUnmade}
use Rattle.lms_commands.specs.Logs.{KeyState, WorldCalls}
use Rattle.lms_key_commands.specs.PublicLogs.{FailsToPublishOf, LogsUnread}
use Rattle.lms_key_commands.specs.ResumeLogs.{IsNotResumed, LogsUnburnt, LogsUnresumed}
use Rattle.lms_key_commands.specs.WitnessLogs.{FailsToMake, LogsUnwitnessed, RefusesWitness, of_making}
use Rattle.lms_world.specs.declared.fault.WorldFault.{WorldFault}
use Rattle.lms_world.specs.declared.fault.WorldFault.TheVariants as world
use Rattle.lms_signature_commands.specs.SignLogs.{LogsUndelivered}
use Rattle.lms_signature_commands.specs.Verdicts.{verdict_status}
use Rattle.lms_cli.proofs.EndorsingFaults.{unendorsed}
use Rattle.lms_inspect.specs.Found.{status_for}
use Rattle.lms_inspect.specs.InspectLogs.{LogsUnsaid, LooksInVain}
use Rattle.lms_inspect.specs.declared.found.Found.{Found}
use Rattle.lms_inspect.specs.declared.found.Found.TheVariants.{State, Signature, Nothing, Public as PublicKey}
use Rattle.lms_join_commands.specs.JoinLogs.{AreUnjoined, FailsToReadParts, JoinNames, JoinParts}
use Rattle.lms_join_commands.specs.JoinLogs.{LogsJoinFailed, LogsJoinKeysFailed}
use Rattle.lms_cli.specs.Deeds.{deed}
use Rattle.lms_cli.proofs.HighFaults.{IsHigh, at, at_lock, at_read, at_there, at_two, at_unopened, at_unread, at_unseen}
use Rattle.lms_cli.proofs.HighFaults.{at_unsigned, at_unwatched, at_write}
use Rattle.lms_cli.proofs.ServingFaults.{IsUnserved, unserved}
use Rattle.lms_cli.specs.RunLogs.{LogsFailed, LogsRun, TellsPlainly}
use Rattle.lms_cli.specs.Runs.{AsksToSignLines, AsksToRead, AsksToServe, Runs, Setting}
use Rattle.lms_world.specs.Held.{Follows}
use Rattle.lms_command_line.specs.declared.command.types.Command.{Command}
use Rattle.lms_command_line.specs.declared.command.types.Command.TheVariants.{Batch, Endorse, Info, Inspect}
use Rattle.lms_command_line.specs.declared.command.types.Command.TheVariants.{Join, JoinPublic, Keygen}
use Rattle.lms_command_line.specs.declared.command.types.Command.TheVariants.{Public, Resume, Serve, Sign, Verify, Witness}
use Rattle.lms_texts.specs.declared.fault.SeedFault.{SeedFault}
use Rattle.lms_texts.specs.declared.fault.SeedFault.TheVariants as no_seed
use Rattle.lms_commands.specs.declared.fault.Fault.{Fault}
use Rattle.lms_commands.specs.declared.fault.Fault.TheVariants.{BadLevels, TooManyLevels, TooTall, BadId, BadRandom}
use Rattle.lms_commands.specs.declared.fault.Fault.TheVariants.{BadWorkers, BadPublicKey, BadEndorsement, BadSignature}
use Rattle.lms_commands.specs.declared.fault.Fault.TheVariants.{StateExists, WriteState, WriteStateBurnt, Exhausted}
use Rattle.lms_commands.specs.declared.fault.Fault.TheVariants.{OutOfMemory, WriteOutput, BadCounter, BadWitness}
use Rattle.lms_commands.specs.declared.fault.Fault.TheVariants.{OtherCounter, ReadWitness, StateNotOlder}
use Rattle.lms_commands.specs.declared.status.Status.{Status}
use Rattle.lms_commands.specs.declared.status.Status.TheVariants.{Done, Negative}
use Rattle.lms_signature_commands.specs.declared.verdict.Verdict.{Verdict}
use Rattle.lms_signature_commands.specs.declared.verdict.Verdict.TheVariants.{Valid, Invalid}

seed_high : (why : SeedFault) → IsHigh (of_seed why)
seed_high no_seed.Bad = omega arith
seed_high no_seed.Read = omega arith

making_high : (cause : WorldFault) → IsHigh (of_making cause)
making_high world.Device = omega arith
making_high world.OutOfMemory = omega arith

module _ (fault : Fault) where
  at_no_levels : (levels : List ℕ) → AreNoLevels levels fault → IsHigh fault
  at_no_levels levels (inl is) = at fault OutOfMemory (omega arith) is
  at_no_levels levels (inr (inl (is, _))) = at fault BadLevels (omega arith) is
  at_no_levels levels (inr (inr (inl (is, _)))) = at fault TooManyLevels (omega arith) is
  at_no_levels levels (inr (inr (inr (is, _)))) = at fault TooTall (omega arith) is

  at_no_key : (levels seed id : List ℕ) (input rest : Option (List ℕ)) → IsNoKey levels seed id input rest fault
      → IsHigh fault
  at_no_key levels seed id input rest (inl (is, _)) = at_no_levels levels is
  at_no_key levels seed id input rest (inr (_, inl (why, is, _))) = at fault (of_seed why) (seed_high why) is
  at_no_key levels seed id input rest (inr (_, inr (is, _, _))) = at fault BadId (omega arith) is

  -- why a witness is not made
  at_not_made : (place : List ℕ) (read : KeyState) (old new : WorldCalls) → FailsToMake place read fault old new
      → IsHigh fault
  at_not_made place read old new (inl (is, _)) = at fault OutOfMemory (omega arith) is
  at_not_made place read old new (inr (cause, is, _)) = at fault (of_making cause) (making_high cause) is

  at_no_witness : (counter : ℕ) (place : List ℕ) (read : KeyState) (old new : WorldCalls)
      → RefusesWitness counter place read fault old new → IsHigh fault
  at_no_witness counter place read old new (inl (is, _, _)) = at fault (OtherCounter _) (omega arith) is
  at_no_witness counter place read old new (inr (_, is)) = at_not_made place read old new is

  -- why a state is not resumed
  at_not_resumed : (end : ℕ) (text : List ℕ) (state : KeyState) → IsNotResumed end text state fault → IsHigh fault
  at_not_resumed end text state (inl (is, _)) = at fault BadWitness (omega arith) is
  at_not_resumed end text state (inr (counter, _, inl (is, _))) = at fault StateNotOlder (omega arith) is
  at_not_resumed end text state (inr (counter, _, inr (inl (is, _, _)))) = at fault (OtherCounter _) (omega arith) is
  at_not_resumed end text state (inr (counter, _, inr (inr (is, _, _, _)))) = at fault (Exhausted _) (omega arith) is

  at_unburnt : (end : ℕ) (old new : WorldCalls) → LogsUnburnt end fault old new → IsHigh fault
  at_unburnt end old new (inl (inl is)) = at_unseen fault old new is
  at_unburnt end old new (inl (inr (inl (is, _)))) = at fault ReadWitness (omega arith) is
  at_unburnt end old new (inl (inr (inr (text, inl is)))) = at_unopened fault _ new is
  at_unburnt end old new (inl (inr (inr (text, inr (read, is, _))))) = at_not_resumed end text read is
  at_unburnt end old new (inr (read, _, (_, _, _, _, inl (is, _)))) = at fault OutOfMemory (omega arith) is
  at_unburnt end old new (inr (read, _, (_, _, _, _, inr (_, is, _, _, _)))) =
      at fault (WriteStateBurnt _ _) (omega arith) is

  at_parts : (names : JoinNames) (old new : WorldCalls) → FailsToReadParts names fault old new → IsHigh fault
  at_parts names old new (inl is) = at_two fault _ _ old new is
  at_parts names old new (inr (one, two, last, _, is)) = at_two fault _ _ last new is

  at_unjoined : (parts : JoinParts) → AreUnjoined parts fault → IsHigh fault
  at_unjoined parts (inl (inl (is, _))) = at fault BadPublicKey (omega arith) is
  at_unjoined parts (inl (inr (is, _, _))) = at fault BadEndorsement (omega arith) is
  at_unjoined parts (inr (_, inl (is, _))) = at fault BadSignature (omega arith) is
  at_unjoined parts (inr (_, inr (is, _))) = at fault OutOfMemory (omega arith) is

  at_not_joined : (names : JoinNames) (old new : WorldCalls) → LogsJoinFailed names fault old new → IsHigh fault
  at_not_joined names old new (inl is) = at_parts names old new is
  at_not_joined names old new (inr (parts, last, _, inl (is, _))) = at_unjoined parts is
  at_not_joined names old new (inr (parts, last, _, inr (joined, _, refused, _))) = at_write fault refused

  at_keys : (public signer out : List ℕ) (old new : WorldCalls) → LogsJoinKeysFailed public signer out fault old new
      → IsHigh fault
  at_keys public signer out old new (inl is) = at_two fault _ _ old new is
  at_keys public signer out old new (inr (top, lower, last, _, inl (inl (is, _), _))) =
      at fault BadPublicKey (omega arith) is
  at_keys public signer out old new (inr (top, lower, last, _, inl (inr (is, _), _))) =
      at fault OutOfMemory (omega arith) is
  at_keys public signer out old new (inr (top, lower, last, _, inr (_, refused, _))) = at_write fault refused

  -- why it is not said what a file is
  at_in_vain : (found : Found) (old new : WorldCalls) → LooksInVain found fault old new → IsHigh fault
  at_in_vain (State image) old new (inl is) = at_unseen fault old new is
  at_in_vain (State image) old new (inr (is, _)) = at fault BadWitness (omega arith) is
  at_in_vain (PublicKey parts) old new never = absurd never
  at_in_vain (Signature parts) old new never = absurd never
  at_in_vain Nothing old new never = absurd never

  at_unsaid_file : (file : List ℕ) (old new : WorldCalls) → LogsUnsaid file fault old new → IsHigh fault
  at_unsaid_file file old new (inl (refused, _)) = at_read fault refused
  at_unsaid_file file old new (inr (inl (is, _))) = at fault OutOfMemory (omega arith) is
  at_unsaid_file file old new (inr (inr (inl (is, _)))) = at fault OutOfMemory (omega arith) is
  at_unsaid_file file old new (inr (inr (inr (held, bytes, _, found, _, is)))) = at_in_vain found _ new is

  -- nothing is printed, or lines are served, at a status of 2 at least; or the output fails; or a
  -- batch is partly done
  abbrev Fails : Type 0 → Type 0 → List ℕ → List ℕ → Type 0
  Fails IsServed SignsJobLines before printed =
      (((printed ≡ before) ⊎ IsServed) × IsHigh fault)
      ⊎ ((fault ≡ WriteOutput) ⊎ (SignsJobLines × (status_of fault ≡ Negative)))

  -- not said of a command that serves
  abbrev FailsOnce : Type 0 → List ℕ → List ℕ → Type 0
  FailsOnce SignsJobLines before printed = Fails ⊥ SignsJobLines before printed

  module _ (before printed : List ℕ) where
    unmade : (key : KeyOfCode) (public : List ℕ) (old new : WorldCalls)
        → LogsUnmade key public before printed fault old new → FailsOnce ⊥ before printed
    unmade key public old new (inl (same, inl (is, _))) = inl (inl same, at fault StateExists (omega arith) is)
    unmade key public old new (inl (same, inr (inl there))) = inl (inl same, at_there fault _ new there)
    unmade key public old new (inl (same, inr (inr (inl (inl (is, _)))))) =
        inl (inl same, at fault OutOfMemory (omega arith) is)
    unmade key public old new (inl (same, inr (inr (inl (inr (_, _, inl (is, _), _)))))) =
        inl (inl same, at fault OutOfMemory (omega arith) is)
    unmade key public old new (inl (same, inr (inr (inl (inr (_, _, inr (is, _), _)))))) =
        inl (inl same, at fault WriteState (omega arith) is)
    unmade key public old new (inl (same, inr (inr (inr (refused, _))))) = inl (inl same, at_write fault refused)
    unmade key public old new (inr (is, _, _)) = inr (inl is)

    unanswered : (input rest : Option (List ℕ)) (old new : WorldCalls)
        → LogsUnanswered input rest before printed fault old new → FailsOnce (Unit {0}) before printed
    unanswered input rest old new (inl (inl (is, _), same)) = inl (inl same, at_unwatched fault old new is)
    unanswered input rest old new (inl (inr (state, inl (unread, _)), same)) =
        inl (inl same, at_unread fault input unread)
    unanswered input rest old new (inl (inr (state, inr (jobs, _, _, is)), same)) =
        inl (inl same, at_unsigned fault (length jobs) state old new is)
    unanswered input rest old new (inr (inl (_, _, is, _, _))) = inr (inr (tt, ap status_of is))
    unanswered input rest old new (inr (inr (is, _))) = inr (inl is)

    undelivered : (random message out : List ℕ) (old new : WorldCalls)
        → LogsUndelivered random message out before printed fault old new → FailsOnce ⊥ before printed
    undelivered random message out old new (inl (_, inl is, same)) = inl (inl same, at_unwatched fault _ new is)
    undelivered random message out old new (inl (_, inr (state, is), same)) =
        inl (inl same, at_unsigned fault 1 state _ new is)
    undelivered random message out old new (inr (is, _)) = inr (inl is)

    at_unread_state : (state : List ℕ) (old new : WorldCalls) → LogsUnread state fault old new → IsHigh fault
    at_unread_state state old new (inl (refused, _)) = at_lock fault refused
    at_unread_state state old new (inr (last, is, _)) = at_unopened fault _ last is

    unpublished : (key : KeyOfCode) (public : List ℕ) (old new : WorldCalls)
        → FailsToPublishOf key public before printed fault old new → FailsOnce ⊥ before printed
    unpublished key public old new (inl (refused, _, same)) = inl (inl same, at_write fault refused)
    unpublished key public old new (inr (is, _, _)) = inr (inl is)

    unwitnessed : (counter : ℕ) (place : List ℕ) (old new : WorldCalls)
        → LogsUnwitnessed counter place before printed fault old new → FailsOnce ⊥ before printed
    unwitnessed counter place old new (inl (same, inl there)) = inl (inl same, at_there fault old new there)
    unwitnessed counter place old new (inl (same, inr (inl is))) = inl (inl same, at_unopened fault _ new is)
    unwitnessed counter place old new (inl (same, inr (inr (read, last, _, is)))) =
        inl (inl same, at_no_witness counter place read last new is)
    unwitnessed counter place old new (inr (is, _)) = inr (inl is)

    unresumed : (end : ℕ) (old new : WorldCalls) → LogsUnresumed end before printed fault old new
        → FailsOnce ⊥ before printed
    unresumed end old new (inl (is, same)) = inl (inl same, at_unburnt end old new is)
    unresumed end old new (inr (is, _)) = inr (inl is)

  module _ (before printed : List ℕ) where
    served : IsUnserved fault → Fails (Unit {0}) (Unit {0}) before printed
    served (inl high) = inl (inr tt, high)
    served (inr (inl is)) = inr (inl is)
    served (inr (inr negative)) = inr (inr (tt, negative))

    failed : (command : Command) (input rest : Option (List ℕ)) (old new : WorldCalls)
        → (deed command).failed fault input rest before printed old new
        → Fails (deed command).may.serves (deed command).may.signs_lines before printed
    failed (Keygen _ _ _ _ _) input rest old new (inl (is, _, same)) = inl (inl same, at_no_key _ _ _ input rest is)
    failed (Keygen _ _ _ _ _) input rest old new (inr (_, _, inl (is, _, same))) =
        inl (inl same, at fault OutOfMemory (omega arith) is)
    failed (Keygen _ _ _ _ _) input rest old new (inr (_, _, inr (inl (refused, _, same)))) =
        inl (inl same, at_lock fault refused)
    failed (Keygen _ _ _ _ _) input rest old new (inr (key, _, inr (inr (last, is, _)))) =
        unmade before printed key _ _ last is
    failed (Info _) input rest old new (inl (refused, _, same)) = inl (inl same, at_lock fault refused)
    failed (Info _) input rest old new (inr (last, inl (is, same), _)) = inl (inl same, at_unopened fault _ last is)
    failed (Info _) input rest old new (inr (_, inr (is, _), _)) = inr (inl is)
    failed (Inspect _) input rest old new (inl (same, inl (refused, _))) = inl (inl same, at_read fault refused)
    failed (Inspect _) input rest old new (inl (same, inr is)) = inl (inl same, at_unsaid_file _ old new is)
    failed (Inspect _) input rest old new (inr (is, _)) = inr (inl is)
    failed (Public _ _) input rest old new (inl (is, same)) =
        inl (inl same, at_unread_state before printed _ old new is)
    failed (Public _ _) input rest old new (inr (read, last, _, inl (is, _, same))) =
        inl (inl same, at fault OutOfMemory (omega arith) is)
    failed (Public _ _) input rest old new (inr (read, last, _, inr is)) =
        unpublished before printed read.key _ last new is
    failed (Sign _ _ _ _) input rest old new (inl (is, _, same, _)) =
        inl (inl same, at fault BadRandom (omega arith) is)
    failed (Sign _ _ _ _) input rest old new (inr (inl (is, _, same, _))) =
        inl (inl same, at fault OutOfMemory (omega arith) is)
    failed (Sign _ _ _ _) input rest old new (inr (inr (inl (refused, _, same, _)))) =
        inl (inl same, at_read fault refused)
    failed (Sign _ _ _ _) input rest old new (inr (inr (inr (inl (_, refused, _, same, _))))) =
        inl (inl same, at_lock fault refused)
    failed (Sign _ _ _ _) input rest old new (inr (inr (inr (inr (c, text, last, _, is, _))))) =
        undelivered before printed c text _ _ last is
    failed (Endorse _ _ _ _ _) input rest old new is =
        ⊎_elim (λ high. inl (inl high.0, high.1)) (λ at_end. inr (inl at_end))
        (unendorsed fault before printed _ old new is)
    failed (Batch _ _) input rest old new (inl (is, _, same, _, _)) =
        inl (inl same, at fault BadWorkers (omega arith) is)
    failed (Batch _ _) input rest old new (inr (inl (refused, _, same, _, _))) = inl (inl same, at_lock fault refused)
    failed (Batch _ _) input rest old new (inr (inr (last, is, _, _))) = unanswered before printed input rest _ last is
    failed (Serve _ _) input rest old new (inl (is, _, same, _, _)) =
        inl (inl same, at fault BadWorkers (omega arith) is)
    failed (Serve _ _) input rest old new (inr (inl (refused, _, same, _, _))) = inl (inl same, at_lock fault refused)
    failed (Serve _ _) input rest old new (inr (inr (last, is, _, _))) =
        served (unserved fault input rest before printed _ last is)
    failed (Witness _ _ _) input rest old new (inl (is, _, _, same)) =
        inl (inl same, at fault BadCounter (omega arith) is)
    failed (Witness _ _ _) input rest old new (inr (_, _, inl (refused, _, same))) =
        inl (inl same, at_lock fault refused)
    failed (Witness _ _ _) input rest old new (inr (number, _, inr (last, is, _))) =
        unwitnessed before printed number _ _ last is
    failed (Resume _ _) input rest old new (inl (is, _, _, same)) = inl (inl same, at fault BadCounter (omega arith) is)
    failed (Resume _ _) input rest old new (inr (_, _, inl (refused, _, same))) = inl (inl same, at_lock fault refused)
    failed (Resume _ _) input rest old new (inr (end, _, inr (last, is, _))) = unresumed before printed end _ last is
    failed (Verify _ _ _) input rest old new (inl (refused, same, _)) = inl (inl same, at_read fault refused)
    failed (Verify _ _ _) input rest old new (inr (is, _)) = inr (inl is)
    failed (Join _ _ _ _ _) input rest old new (same, is) = inl (inl same, at_not_joined _ old new is)
    failed (JoinPublic _ _ _) input rest old new (same, is) = inl (inl same, at_keys _ _ _ old new is)

    refused : (words : List Text) (input rest : Option (List ℕ)) (old new : WorldCalls)
        → LogsFailed words fault input rest before printed old new
        → Fails (AsksToServe words) (AsksToSignLines words) before printed
    refused words input rest old new (inl (_, inl (is, same))) = inl (inl same, at fault OutOfMemory (omega arith) is)
    refused words input rest old new (inl (_, inr (_, is, _))) = inr (inl is)
    refused words input rest old new (inr (command, taken, is)) =
        ⊎_elim (λ high. inl (⊎_elim inl (λ serves. inr (command, taken, serves)) high.0, high.1))
        (λ more. inr (⊎_elim inl (λ part. inr ((command, taken, part.0), part.1)) more))
        (failed command input rest old new is)

-- a fault with a line on the errors and a status below 2 is that of `batch`
pub speaks : (words : List Text) (fault : Fault) (input rest : Option (List ℕ)) (before printed : List ℕ)
    (old new : WorldCalls) → status_number (status_of fault) < 2
    → LogsFailed words fault input rest before printed old new → (status_of fault ≡ Negative) × AsksToSignLines words
speaks words fault input rest before printed old new low is =
    by_fails (refused fault before printed words input rest old new is)
  where
    by_fails : Fails fault (AsksToServe words) (AsksToSignLines words) before printed
        → (status_of fault ≡ Negative) × AsksToSignLines words
    by_fails (inl (same, high)) = absurd (omega (arith, low, high))
    by_fails (inr (inl is)) = let high = at fault WriteOutput (omega arith) is in absurd (omega (arith, low, high))
    by_fails (inr (inr (asks, negative))) = (negative, asks)

-- a command that is done ends below 2
answers : (verdict : Verdict) → status_number (verdict_status verdict) < 2
answers Valid = omega arith
answers Invalid = omega arith

found_low : (found : Found) → status_number (status_for found) < 2
found_low (State image) = omega arith
found_low (PublicKey parts) = omega arith
found_low (Signature parts) = omega arith
found_low Nothing = omega arith

too_low : (end is : Status) → end ≡ is → status_number is < 2 → 2 ≤ status_number end → ⊥
too_low end is same low high =
    let both : 2 ≤ status_number is = subst (λ (s : Status). 2 ≤ status_number s) same high in
    absurd (omega (arith, low, both))

pub obeyed_low : (command : Command) (end : Status) (input rest : Option (List ℕ)) (before printed : List ℕ)
    (old new : WorldCalls) → 2 ≤ status_number end → (deed command).done end input rest before printed old new → ⊥
obeyed_low (Keygen _ _ _ _ _) end input rest before printed old new high is = too_low end _ is.0 (omega arith) high
obeyed_low (Info _) end input rest before printed old new high is = too_low end _ is.0 (omega arith) high
obeyed_low (Inspect _) end input rest before printed old new high (last, inspects, is, line, calls) =
    too_low end _ is (found_low inspects.found) high
obeyed_low (Public _ _) end input rest before printed old new high is = too_low end _ is.0 (omega arith) high
obeyed_low (Sign _ _ _ _) end input rest before printed old new high is = too_low end _ is.0 (omega arith) high
obeyed_low (Endorse _ _ _ _ _) end input rest before printed old new high is = too_low end _ is.0 (omega arith) high
obeyed_low (Batch _ _) end input rest before printed old new high is = too_low end _ is.0 (omega arith) high
obeyed_low (Serve _ _) end input rest before printed old new high is = too_low end _ is.0 (omega arith) high
obeyed_low (Witness _ _ _) end input rest before printed old new high is = too_low end _ is.0 (omega arith) high
obeyed_low (Resume _ _) end input rest before printed old new high is = too_low end _ is.0 (omega arith) high
obeyed_low (Verify _ _ _) end input rest before printed old new high is = too_low end _ is.1 (answers is.0) high
obeyed_low (Join _ _ _ _ _) end input rest before printed old new high is = too_low end _ is.0 (omega arith) high
obeyed_low (JoinPublic _ _ _) end input rest before printed old new high is = too_low end _ is.0 (omega arith) high

-- at a status from 2 to 5 nothing is printed, but by `serve`
silent_at : (words : List Text) (end : Status) (input rest : Option (List ℕ)) (before printed : List ℕ)
    (errors_before errors_after : Option (List ℕ)) (old new : WorldCalls)
    → LogsRun words end input rest before printed errors_before errors_after old new
    → 2 ≤ status_number end → status_number end < 6 → (printed ≡ before) ⊎ AsksToServe words
silent_at words end input rest before printed eb ea old new (inl (inl (_, inl (_, is, _)), _)) high below =
    absurd (too_low end Done is (omega arith) high)
silent_at words end input rest before printed eb ea old new (inl (inl (_, inr (_, _, same)), _)) high below = inl same
silent_at words end input rest before printed eb ea old new (inl (inr (command, _, is), _)) high below =
    absurd (obeyed_low command end input rest before printed old new high is)
silent_at words end input rest before printed eb ea old new (inr (fault, end_is, _, is)) high below =
    by_fails (refused fault before printed words input rest old new is)
  where
    by_fails : Fails fault (AsksToServe words) (AsksToSignLines words) before printed
        → (printed ≡ before) ⊎ AsksToServe words
    by_fails (inl (quiet, _)) = quiet
    by_fails (inr (inl is)) =
        let six : status_number end ≡ 6 = ap status_number (end_is ∙ ap status_of is) in
        absurd (omega (arith, below, six))
    by_fails (inr (inr (_, negative))) = absurd (too_low end Negative (end_is ∙ negative) (omega arith) high)

-- so a run is what its contract says, by its log
pub runs : {I E : Type 0} (looked_on : Bool) (old new : Setting I E) (words : List Text) (end : Status)
    → LogsRun words end old.remaining new.remaining old.output new.output old.error_text new.error_text
    old.calls new.calls
    → Follows old.memory old.calls new.memory new.calls
    → (looked_on ≡ false → TellsPlainly end old.error_text new.error_text)
    → (status_number end < 2
    → (new.errors ≡ old.errors) ⊎ ((end ≡ Negative) × (AsksToSignLines words ⊎ (looked_on ≡ true))))
    → (new.input ≡ old.input) ⊎ AsksToRead words → Runs looked_on old new words end
runs looked_on old new words end logged follows plain quiet unread = record {
  logged = logged;
  follows = follows;
  plain = plain;
  quiet = quiet;
  silent = silent_at words end _ _ _ _ _ _ _ _ logged;
  unread = unread;
}

-- what is printed whole or cut short
pub any_front : {T E : Type 0} (r : Result T E) (before after : Option (List ℕ)) (text : List ℕ)
    → OnOk r (Appends before after text)
    → OnErr r (AppendsFront before after text) → AppendsFront before after text
any_front (Ok x) before after text all front =
    record { front = text; rest = []; whole = sym (append-nil text); appended = all }
any_front (Err e) before after text all front = front
