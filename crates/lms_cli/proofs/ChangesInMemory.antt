-- What a run changes in a world in memory.
use Rattle.std.proofs.Common.{◌⊎◌, ◌≡◌, ℕ, List, Option, Some, String, Global, ap, inl, inr, refl}
use Rattle.std.specs.Prelude.{string_bytes}
use Rattle.clap.specs.Words.{Text}
use Rattle.lms_world.specs.Held.{Follows, Held, answer_in}
use Rattle.lms_world.proofs.Outcomes.{holds_what_is_logged}
use Rattle.lms_commands.specs.InMemory.{OnlyFiles, Stays}
use Rattle.lms_commands.specs.Logs.{WorldCalls}
use Rattle.lms_commands.specs.declared.fault.Fault.{Fault}
use Rattle.lms_commands.specs.declared.status.Status.{Status}
use Rattle.lms_batch_commands.proofs.ServingCalls.{serve_failed_keeps, serve_keeps, stays_unwritten}
use Rattle.lms_batch_commands.proofs.BatchInMemory.{fails_to_sign_jobs_in_memory, signs_jobs_in_memory}
use Rattle.lms_key_commands.proofs.KeygenInMemory.{fails_to_make_key_in_memory, makes_key_in_memory}
use Rattle.lms_key_commands.proofs.PublicInMemory.{fails_to_publish_key_in_memory, publishes_key_in_memory}
use Rattle.lms_key_commands.proofs.InfoInMemory.{describes_in_memory, fails_to_describe_in_memory}
use Rattle.lms_key_commands.proofs.ResumeInMemory.{fails_to_resume_in_memory, resumes_in_memory}
use Rattle.lms_key_commands.proofs.WitnessInMemory.{fails_to_make_witness_in_memory, makes_witness_in_memory}
use Rattle.lms_signature_commands.proofs.VerifyInMemory.{fails_to_judge_in_memory, judges_in_memory}
use Rattle.lms_signature_commands.proofs.SignInMemory.{fails_to_sign_in_memory, signs_in_memory}
use Rattle.lms_endorse.proofs.EndorseInMemory.{endorses_in_memory, fails_to_endorse_in_memory}
use Rattle.lms_commands.proofs.Telling.{nothing_done}
use Rattle.lms_inspect.proofs.InspectInMemory.{fails_to_inspect_in_memory, inspects_in_memory}
use Rattle.lms_join_commands.proofs.JoinInMemory.{fails_to_join_in_memory, fails_to_join_keys_in_memory}
use Rattle.lms_join_commands.proofs.JoinInMemory.{joins_in_memory, joins_keys_in_memory}
use Rattle.lms_command_line.specs.Commands.{AreTakenAs}
use Rattle.lms_cli.specs.Deeds.{Rights, deed}
use Rattle.lms_cli.specs.RunsInMemory.{ChangesAsked, ChangesAskedInMemory}
use Rattle.lms_command_line.specs.declared.command.types.Command.{Command}
use Rattle.lms_command_line.specs.declared.command.types.Command.TheVariants.{Batch, Endorse, Info, Inspect}
use Rattle.lms_command_line.specs.declared.command.types.Command.TheVariants.{Join, JoinPublic, Keygen}
use Rattle.lms_command_line.specs.declared.command.types.Command.TheVariants.{Public, Resume, Serve, Sign, Verify, Witness}
use Rattle.lms_cli.proofs.FailingInMemory.{SparesFiles, at_name, batch_unwritten, endorse_files, files_of, info_stays}
use Rattle.lms_cli.proofs.FailingInMemory.{keygen_leaves, nodes_of, only_files, public_leaves, sign_files, state_alone}
use Rattle.lms_cli.proofs.FailingInMemory.{state_of, witness_at_most, witness_of}

-- what a command changes
pub record ChangesOwn (may : Rights) (old new : Held) : Type 0 where
  files : (name : Text) → ¬ may.writes name → answer_in new.files name ≡ answer_in old.files name
  state : ¬ may.stores → new.state ≡ old.state
  nodes : ¬ may.keeps → new.nodes ≡ old.nodes
  witness : ¬ may.watches → new.witness ≡ old.witness
  only : ¬ may.locks → OnlyFiles old new
  all : ¬ may.locks → ¬ ((name : Text) × may.writes name) → new ≡ old

none_changed : (may : Rights) (old new : Held) → new ≡ old → ChangesOwn may old new
none_changed may old new same = record {
  files = λ name other. at_name name _ _ (files_of same);
  state = λ other. state_of same;
  nodes = λ other. nodes_of same;
  witness = λ other. witness_of same;
  only = λ other. only_files same;
  all = λ other none. same;
}

-- a file alone, by the right to write it
file_changed : (may : Rights) (old new : Held)
    → ((name : Text) → ¬ may.writes name → answer_in new.files name ≡ answer_in old.files name)
    → OnlyFiles old new → (name : Text) × may.writes name → ChangesOwn may old new
file_changed may old new files only written = record {
  files = files;
  state = λ other. state_of only;
  nodes = λ other. nodes_of only;
  witness = λ other. witness_of only;
  only = λ other. only;
  all = λ other none. absurd (none written);
}

unless : {A B : Type 0} → A ⊎ B → ¬ A → B
unless (inl is) other = absurd (other is)
unless (inr is) other = is

-- what there is a right to, or not, of one that locks a state
locked_changed : (may : Rights) (old new : Held) → may.locks
    → ((name : Text) → ¬ may.writes name → answer_in new.files name ≡ answer_in old.files name)
    → may.stores ⊎ (new.state ≡ old.state) → may.keeps ⊎ (new.nodes ≡ old.nodes)
    → may.watches ⊎ (new.witness ≡ old.witness) → ChangesOwn may old new
locked_changed may old new locks files state nodes witness = record {
  files = files;
  state = λ other. unless state other;
  nodes = λ other. unless nodes other;
  witness = λ other. unless witness other;
  only = λ other. absurd (other locks);
  all = λ other none. absurd (other locks);
}

-- the same, where no file is changed
files_left : (may : Rights) (old new : Held) → may.locks → new.files ≡ old.files
    → may.stores ⊎ (new.state ≡ old.state) → may.keeps ⊎ (new.nodes ≡ old.nodes)
    → may.watches ⊎ (new.witness ≡ old.witness) → ChangesOwn may old new
files_left may old new locks same state nodes witness =
    locked_changed may old new locks (λ name other. at_name name _ _ same) state nodes witness

module _ (input rest : Option (List ℕ)) (before printed : List ℕ) (old new : Held) (earlier now : WorldCalls)
    (follows : Follows (Some old) earlier (Some new) now) where
  unchanged : (may : Rights) (fault : Fault) → new ≡ old → ChangesOwn may old new × SparesFiles fault old new
  unchanged may fault same = (none_changed may old new same, λ other. files_of same)

  info_changed : (state : String Global) → Stays old new → ChangesOwn (deed (Info state)).may old new
  info_changed state stays =
      files_left _ old new tt stays.files (inr stays.state) (inr stays.nodes) (inr stays.witness)

  obeyed : (command : Command) (end : Status) → (deed command).done end input rest before printed earlier now
      → ChangesOwn (deed command).may old new
  obeyed (Keygen levels seed id state public) end (done, (key, is_key, is)) =
      let made = makes_key_in_memory key _ _ before printed old new earlier now is follows in
      locked_changed _ old new tt made.1.others (inl tt) (inl tt) (inr made.0.witness)
  obeyed (Info state) end (done, is) =
      let found = describes_in_memory _ before printed old new earlier now is follows in
      info_changed state found.1.0.stays
  obeyed (Inspect file) end is =
      none_changed _ old new (inspects_in_memory _ end before printed old new earlier now is follows).3
  obeyed (Public state public) end (done, is) =
      let made = (publishes_key_in_memory _ _ before printed old new earlier now is follows).1.0 in
      locked_changed _ old new tt made.file.others (inr made.state_stays) (inr made.nodes) (inr made.witness)
  obeyed (Sign state random message out) end (done, is) =
      let made = signs_in_memory _ before printed old new earlier now is follows in
      locked_changed _ old new tt made.1.others (inl tt) (inl tt) (inl tt)
  obeyed (Endorse state random signer joined out) end (done, is) =
      let made = endorses_in_memory _ before printed old new earlier now is follows in
      locked_changed _ old new tt made.1.others (inl tt) (inl tt) (inl tt)
  obeyed (Batch state workers) end (done, is) =
      let made = signs_jobs_in_memory _ _ input rest before printed old new earlier now is follows in
      files_left _ old new tt made.1.0.files (inl tt) (inr made.1.0.nodes) (inl tt)
  obeyed (Serve state workers) end (done, is) =
      let kept = stays_unwritten old new earlier now
      (serve_keeps _ _ input rest before printed earlier now is) follows in
      files_left _ old new tt kept.0 (inl tt) (inr kept.1) (inl tt)
  obeyed (Witness state on counter) end (done, is) =
      let made = (makes_witness_in_memory _ _ _ before printed old new earlier now is follows).1.0 in
      files_left _ old new tt made.files (inr made.state_stays) (inr made.nodes) (inl tt)
  obeyed (Resume state counter) end (done, is) =
      let older = (resumes_in_memory _ _ before printed old new earlier now is follows).1.2.0.0 in
      files_left _ old new tt older.files (inl tt) (inr older.nodes) (inr older.witness)
  obeyed (Verify public message signature) end (verdict, at, is) =
      let judged = judges_in_memory _ _ _ verdict before printed old new earlier now is follows in
      none_changed _ old new judged.1
  obeyed (Join public endorsement signer signature out) end (done, quiet, is) =
      let made = joins_in_memory _ old new earlier now is follows in
      file_changed _ old new made.file.others made.only (string_bytes out, refl)
  obeyed (JoinPublic public signer out) end (done, quiet, is) =
      let made = joins_keys_in_memory _ _ _ old new earlier now is follows in
      file_changed _ old new made.file.others made.only (string_bytes out, refl)

  -- where it fails; and no file is changed, unless the output fails
  pub failed : (command : Command) (fault : Fault)
      → (deed command).failed fault input rest before printed earlier now
      → ChangesOwn (deed command).may old new × SparesFiles fault old new
  failed (Keygen levels seed id state public) fault (inl (no_key, calls, same)) =
      unchanged _ fault (nothing_done old new calls follows)
  failed (Keygen levels seed id state public) fault (inr (key, is_key, is)) =
      let why = fails_to_make_key_in_memory key _ _ before printed fault old new earlier now is follows in
      let leaves = keygen_leaves fault old new key _ why in
      (locked_changed _ old new tt leaves.0 (inl tt) (inl tt) (inr leaves.1), leaves.2)
  failed (Info state) fault is =
      let why = fails_to_describe_in_memory _ before printed fault old new earlier now is follows in
      let stays = info_stays fault old new before printed why in (info_changed state stays, λ other. stays.files)
  failed (Inspect file) fault is =
      unchanged _ fault (fails_to_inspect_in_memory _ fault before printed old new earlier now is follows).1
  failed (Public state public) fault is =
      let why = fails_to_publish_key_in_memory _ _ before printed fault old new earlier now is follows in
      let leaves = public_leaves fault old new _ before printed why in
      (locked_changed _ old new tt leaves.0.0 (inr leaves.0.1) (inr leaves.0.2) (inr leaves.0.3), leaves.1)
  failed (Sign state random message out) fault is =
      let why = fails_to_sign_in_memory _ before printed fault old new earlier now is follows in
      let others = sign_files fault old new _ _ _ why.0 in
      (locked_changed _ old new tt others (inl tt) (inl tt) (inl tt), why.1)
  failed (Endorse state random signer joined out) fault is =
      let why = fails_to_endorse_in_memory _ before printed fault old new earlier now is follows in
      let others = endorse_files fault old new _ why.0 in
      (locked_changed _ old new tt others (inl tt) (inl tt) (inl tt), why.1)
  failed (Batch state workers) fault is =
      let why = fails_to_sign_jobs_in_memory _ _ input rest before printed fault old new earlier now is follows in
      let kept = batch_unwritten fault old new _ input rest before printed why in
      (files_left _ old new tt kept.0 (inl tt) (inr kept.1) (inl tt), λ other. kept.0)
  failed (Serve state workers) fault is =
      let kept = stays_unwritten old new earlier now
      (serve_failed_keeps _ _ input rest before printed fault earlier now is) follows in
      (files_left _ old new tt kept.0 (inl tt) (inr kept.1) (inl tt), λ other. kept.0)
  failed (Witness state on counter) fault is =
      let why = fails_to_make_witness_in_memory _ _ _ before printed fault old new earlier now is follows in
      let most = witness_at_most fault old new _ before printed why in
      (files_left _ old new tt most.0 (inr most.1) (inr most.2) (inl tt), λ other. most.0)
  failed (Resume state counter) fault is =
      let why = fails_to_resume_in_memory _ _ before printed fault old new earlier now is follows in
      let most = state_alone fault old new _ before printed why in
      (files_left _ old new tt most.0 (inl tt) (inr most.1) (inr most.2), λ other. most.0)
  failed (Verify public message signature) fault is =
      unchanged _ fault (fails_to_judge_in_memory _ _ _ before printed fault old new earlier now is follows).1
  failed (Join public endorsement signer signature out) fault (quiet, is) =
      unchanged _ fault (fails_to_join_in_memory _ fault old new earlier now is follows).1
  failed (JoinPublic public signer out) fault (quiet, is) =
      unchanged _ fault (fails_to_join_keys_in_memory _ _ _ fault old new earlier now is follows).1

module _ (words : List Text) (old new : Held) (earlier now : WorldCalls)
    (follows : Follows (Some old) earlier (Some new) now) where
  changes_none : now ≡ earlier → ChangesAsked words old new
  changes_none none =
      let same = nothing_done old new none follows in
      record {
        files = λ name other. at_name name _ _ (files_of same);
        state = λ other. state_of same;
        nodes = λ other. nodes_of same;
        witness = λ other. witness_of same;
        in_use = ap (λ (h : Held). h.in_use) same;
        only = λ other. only_files same;
        all = λ other none. same;
      }

  changes_own : (command : Command) → AreTakenAs words command → ChangesOwn (deed command).may old new
      → ChangesAsked words old new
  changes_own command taken own = record {
    files = λ name other. own.files name (λ such. other (command, taken, such));
    state = λ other. own.state (λ such. other (command, taken, such));
    nodes = λ other. own.nodes (λ such. other (command, taken, such));
    witness = λ other. own.witness (λ such. other (command, taken, such));
    in_use = (holds_what_is_logged old new earlier now follows).2.3;
    only = λ other. own.only (λ such. other (command, taken, such));
    all =
        λ other none. own.all (λ such. other (command, taken, such)) (λ such. none (command, taken, such));
  }

pub changes_what_is_asked : ChangesAskedInMemory
changes_what_is_asked words end input rest before printed eb ea old new earlier now
    (inl (inl (none, is), told)) follows =
    changes_none words old new earlier now follows none
changes_what_is_asked words end input rest before printed eb ea old new earlier now
    (inl (inr (command, taken, is), told)) follows =
    let own = obeyed input rest before printed old new earlier now follows command end is in
    changes_own words old new earlier now follows command taken own
changes_what_is_asked words end input rest before printed eb ea old new earlier now
    (inr (fault, end_is, line, inl (none, is))) follows =
    changes_none words old new earlier now follows none
changes_what_is_asked words end input rest before printed eb ea old new earlier now
    (inr (fault, end_is, line, inr (command, taken, is))) follows =
    let own = failed input rest before printed old new earlier now follows command fault is in
    changes_own words old new earlier now follows command taken own.0
