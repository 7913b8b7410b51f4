-- What each command does: its calls where it is done and where it fails, what it hands out, and what
-- it may do.
use Rattle.std.specs.Prelude.{◌≡◌, ◌⊎◌, ℕ, List, [], Option, String, string_bytes}
use Rattle.std.specs.Global.{Global}
use Rattle.clap.specs.Words.{Text}
use Rattle.lms_hss.specs.declared.key.HssKey.{HssKey as KeyOfCode}
use Rattle.lms_texts.specs.Seeds.{on_input}
use Rattle.lms_commands.specs.Histories.{AreDelivered, ArePrinted, HandsNothing, Signature}
use Rattle.lms_commands.specs.Logs.{WorldCalls}
use Rattle.lms_commands.specs.declared.fault.Fault.{Fault}
use Rattle.lms_commands.specs.declared.status.Status.{Status}
use Rattle.lms_commands.specs.declared.status.Status.TheVariants.{Done}
use Rattle.lms_key_commands.specs.InfoLogs.{LogsInfo, LogsInfoFailed}
use Rattle.lms_key_commands.specs.Keygen.{IsKeyOf, IsNoKey}
use Rattle.lms_key_commands.specs.KeygenLogs.{LogsKeygen, LogsKeygenFailed}
use Rattle.lms_key_commands.specs.KeyTurns.{HandsKey, HandsState, HandsWitness}
use Rattle.lms_key_commands.specs.PublicLogs.{LogsPublic, LogsPublicFailed}
use Rattle.lms_key_commands.specs.ResumeLogs.{LogsResume, LogsResumeFailed}
use Rattle.lms_key_commands.specs.ResumeTurns.{HandsResumed}
use Rattle.lms_key_commands.specs.WitnessLogs.{LogsWitness, LogsWitnessFailed}
use Rattle.lms_batch_commands.specs.BatchLogs.{LogsJobs, LogsJobsFailed}
use Rattle.lms_batch_commands.specs.Serving.{LogsServe, LogsServeFailed}
use Rattle.lms_signature_commands.specs.SignLogs.{LogsSign, LogsSignFailed, Signing}
use Rattle.lms_signature_commands.specs.Verdicts.{verdict_status}
use Rattle.lms_signature_commands.specs.VerifyLogs.{LogsVerify, LogsVerifyFailed}
use Rattle.lms_signature_commands.specs.VerifyTurns.{HandsVerdict}
use Rattle.lms_signature_commands.specs.declared.verdict.Verdict.{Verdict}
use Rattle.lms_endorse.specs.EndorseLogs.{Endorsing, LogsEndorse, LogsEndorseFailed}
use Rattle.lms_endorse.specs.EndorseTurns.{AreEndorsed}
use Rattle.lms_inspect.specs.InspectLogs.{LogsInspect, LogsInspectFailed}
use Rattle.lms_inspect.specs.InspectTurns.{HandsDescription}
use Rattle.lms_join_commands.specs.Joined.{HandsJoined, HandsJoinedKey}
use Rattle.lms_join_commands.specs.JoinLogs.{JoinNames, LogsJoin, LogsJoinFailed, LogsJoinKeys, LogsJoinKeysFailed}
use Rattle.lms_command_line.specs.Commands.{AreTakenAs}
use Rattle.lms_command_line.specs.declared.command.types.Command.{Command}
use Rattle.lms_command_line.specs.declared.command.types.Command.TheVariants.{Batch, Endorse, Info, Inspect}
use Rattle.lms_command_line.specs.declared.command.types.Command.TheVariants.{Join, JoinPublic, Keygen}
use Rattle.lms_command_line.specs.declared.command.types.Command.TheVariants.{Public, Resume, Serve, Sign, Verify, Witness}

-- what is known of the input before and after, what was printed before and after, and the calls
-- before and after
abbrev pub Calls : Type 1
Calls = Option (List ℕ) → Option (List ℕ) → List ℕ → List ℕ → WorldCalls → WorldCalls → Type 0

-- which of these a command may do: sign job lines, take further turns after its first, read standard
-- input, write the file of this name, store a state, keep nodes beside it, make or replace its
-- witness, lock it
pub record Rights : Type 1 where
  pub signs_lines : Type 0
  pub serves : Type 0
  pub reads : Type 0
  pub writes : Text → Type 0
  pub stores : Type 0
  pub keeps : Type 0
  pub watches : Type 0
  pub locks : Type 0

-- none of these
abbrev pub no_rights : Rights
no_rights = record {
  signs_lines = ⊥;
  serves = ⊥;
  reads = ⊥;
  writes = λ name. ⊥;
  stores = ⊥;
  keeps = ⊥;
  watches = ⊥;
  locks = ⊥;
}

-- what a command does: its calls where it is done and the program ends so, and where it fails by this fault; what it
-- hands out, and the signatures in that; and what it may do
pub record Deed : Type 1 where
  pub done : Status → Calls
  pub failed : Fault → Calls
  pub hands : List Signature → WorldCalls → List ℕ → List ℕ → Type 0
  pub may : Rights

-- what hands out no signature of its own
abbrev pub unsigned : (WorldCalls → List ℕ → List ℕ → Type 0) → List Signature → WorldCalls → List ℕ → List ℕ
    → Type 0
unsigned Hands signatures whole before printed = (signatures ≡ []) × Hands whole before printed

-- what `sign` is asked for
abbrev pub signing : String Global → String Global → String Global → String Global → Signing
signing random message state out = record {
  randomizer = string_bytes random;
  message = string_bytes message;
  state = string_bytes state;
  out = string_bytes out;
}

-- what `endorse` is asked for
abbrev pub endorsing : String Global → String Global → String Global → String Global → String Global → Endorsing
endorsing state random signer joined out = record {
  randomizer = string_bytes random;
  joined = string_bytes joined;
  signer = string_bytes signer;
  state = string_bytes state;
  out = string_bytes out;
}

-- the files that `join` is asked to read and write
abbrev pub join_names : String Global → String Global → String Global → String Global
    → String Global → JoinNames
join_names public endorsement signer signature out = record {
  public = string_bytes public;
  endorsement = string_bytes endorsement;
  signer = string_bytes signer;
  signature = string_bytes signature;
  out = string_bytes out;
}

-- what each command does. `sign` and `endorse` write signatures to their file, `batch` and `serve` print their lines,
-- and no other command has any of its own; what `join` writes repeats one that was read
abbrev pub deed : Command → Deed
deed (Keygen levels seed id state public) = record {
  done = λ end input rest before printed old new. (end ≡ Done)
      × ((key : KeyOfCode)
      × IsKeyOf (string_bytes levels) (string_bytes seed) (string_bytes id) input rest key
      × LogsKeygen key (string_bytes state) (string_bytes public) before printed old new);
  failed = λ fault input rest before printed old new.
      (IsNoKey (string_bytes levels) (string_bytes seed) (string_bytes id) input rest fault
      × (new ≡ old) × (printed ≡ before))
      ⊎ ((key : KeyOfCode)
      × IsKeyOf (string_bytes levels) (string_bytes seed) (string_bytes id) input rest key
      × LogsKeygenFailed key (string_bytes state) (string_bytes public) before printed fault old new);
  hands = unsigned (λ whole before printed. HandsNothing whole before printed ⊎ HandsKey whole before printed);
  may = record no_rights {
    reads = string_bytes seed ≡ on_input;
    writes = λ name. name ≡ string_bytes public;
    stores = Unit {0};
    keeps = Unit {0};
    locks = Unit {0};
  };
}
deed (Info state) = record {
  done = λ end input rest before printed old new.
      (end ≡ Done) × LogsInfo (string_bytes state) before printed old new;
  failed = λ fault input rest before printed old new.
      LogsInfoFailed (string_bytes state) before printed fault old new;
  hands = unsigned HandsState;
  may = record no_rights { locks = Unit {0} };
}
deed (Inspect file) = record {
  done = λ end input rest before printed old new.
      LogsInspect (string_bytes file) end before printed old new;
  failed = λ fault input rest before printed old new.
      LogsInspectFailed (string_bytes file) fault before printed old new;
  hands = unsigned HandsDescription;
  may = no_rights;
}
deed (Public state public) = record {
  done = λ end input rest before printed old new. (end ≡ Done)
      × LogsPublic (string_bytes state) (string_bytes public) before printed old new;
  failed = λ fault input rest before printed old new.
      LogsPublicFailed (string_bytes state) (string_bytes public) before printed fault old new;
  hands = unsigned (λ whole before printed. HandsNothing whole before printed ⊎ HandsKey whole before printed);
  may = record no_rights { writes = λ name. name ≡ string_bytes public; locks = Unit {0} };
}
deed (Sign state random message out) = record {
  done = λ end input rest before printed old new. (end ≡ Done)
      × LogsSign (signing random message state out) before printed old new;
  failed = λ fault input rest before printed old new.
      LogsSignFailed (signing random message state out) before printed fault old new;
  hands = AreDelivered;
  may = record no_rights {
    writes = λ name. name ≡ string_bytes out;
    stores = Unit {0};
    keeps = Unit {0};
    watches = Unit {0};
    locks = Unit {0};
  };
}
deed (Endorse state random signer joined out) = record {
  done = λ end input rest before printed old new. (end ≡ Done)
      × LogsEndorse (endorsing state random signer joined out) before printed old new;
  failed = λ fault input rest before printed old new.
      LogsEndorseFailed (endorsing state random signer joined out) before printed fault old new;
  hands = AreEndorsed;
  may = record no_rights {
    writes = λ name. name ≡ string_bytes out;
    stores = Unit {0};
    keeps = Unit {0};
    watches = Unit {0};
    locks = Unit {0};
  };
}
deed (Batch state workers) = record {
  done = λ end input rest before printed old new. (end ≡ Done)
      × LogsJobs (string_bytes state) (string_bytes workers) input rest before printed old new;
  failed = λ fault input rest before printed old new.
      LogsJobsFailed (string_bytes state) (string_bytes workers) input rest before printed fault old new;
  hands = ArePrinted;
  may = record no_rights {
    signs_lines = Unit {0};
    reads = Unit {0};
    stores = Unit {0};
    watches = Unit {0};
    locks = Unit {0};
  };
}
deed (Serve state workers) = record {
  done = λ end input rest before printed old new. (end ≡ Done)
      × LogsServe (string_bytes state) (string_bytes workers) input rest before printed old new;
  failed = λ fault input rest before printed old new.
      LogsServeFailed (string_bytes state) (string_bytes workers) input rest before printed fault old new;
  hands = ArePrinted;
  may = record no_rights {
    signs_lines = Unit {0};
    serves = Unit {0};
    reads = Unit {0};
    stores = Unit {0};
    watches = Unit {0};
    locks = Unit {0};
  };
}
deed (Witness state on counter) = record {
  done = λ end input rest before printed old new. (end ≡ Done)
      × LogsWitness (string_bytes state) (string_bytes on) (string_bytes counter) before printed old new;
  failed = λ fault input rest before printed old new.
      LogsWitnessFailed (string_bytes state) (string_bytes on) (string_bytes counter) before printed
      fault old new;
  hands = unsigned HandsWitness;
  may = record no_rights { watches = Unit {0}; locks = Unit {0} };
}
deed (Resume state counter) = record {
  done = λ end input rest before printed old new.
      (end ≡ Done) × LogsResume (string_bytes state) (string_bytes counter) before printed old new;
  failed = λ fault input rest before printed old new.
      LogsResumeFailed (string_bytes state) (string_bytes counter) before printed fault old new;
  hands = unsigned HandsResumed;
  may = record no_rights { stores = Unit {0}; locks = Unit {0} };
}
deed (Verify public message signature) = record {
  done = λ end input rest before printed old new. (verdict : Verdict) × (end ≡ verdict_status verdict)
      × LogsVerify (string_bytes public) (string_bytes message)
      (string_bytes signature) verdict before printed old new;
  failed = λ fault input rest before printed old new.
      LogsVerifyFailed (string_bytes public) (string_bytes message)
      (string_bytes signature) before printed fault old new;
  hands = unsigned HandsVerdict;
  may = no_rights;
}
deed (Join public endorsement signer signature out) = record {
  done = λ end input rest before printed old new. (end ≡ Done) × (printed ≡ before)
      × LogsJoin (join_names public endorsement signer signature out) old new;
  failed = λ fault input rest before printed old new. (printed ≡ before)
      × LogsJoinFailed (join_names public endorsement signer signature out) fault old new;
  hands = unsigned (HandsJoined (string_bytes signature));
  may = record no_rights { writes = λ name. name ≡ string_bytes out };
}
deed (JoinPublic public signer out) = record {
  done = λ end input rest before printed old new. (end ≡ Done) × (printed ≡ before)
      × LogsJoinKeys (string_bytes public) (string_bytes signer) (string_bytes out) old new;
  failed = λ fault input rest before printed old new. (printed ≡ before)
      × LogsJoinKeysFailed (string_bytes public) (string_bytes signer) (string_bytes out)
      fault old new;
  hands = unsigned HandsJoinedKey;
  may = record no_rights { writes = λ name. name ≡ string_bytes out };
}

-- the arguments ask for a command that has such rights
abbrev pub IsAsked : (Rights → Type 0) → List Text → Type 0
IsAsked Such words = (command : Command) × AreTakenAs words command × Such (deed command).may
