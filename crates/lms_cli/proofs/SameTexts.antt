-- The calls of a command, by texts that are equal.
use Rattle.std.proofs.Common.{◌≡◌, ℕ, List, Result, subst}
use Rattle.std.specs.Prelude.{IfErr, IfOk}
use Rattle.lms_commands.specs.Logs.{WorldCalls}
use Rattle.lms_signature_commands.specs.SignLogs.{LogsSign, LogsSignFailed, Signing}
use Rattle.lms_inspect.specs.InspectLogs.{LogsInspect, LogsInspectFailed}
use Rattle.lms_join_commands.specs.JoinLogs.{JoinNames, LogsJoin, LogsJoinFailed}
use Rattle.lms_commands.specs.declared.fault.Fault.{Fault}
use Rattle.lms_commands.specs.declared.status.Status.{Status}

abbrev signing : List ℕ → List ℕ → List ℕ → List ℕ → Signing
signing random message state out = record { randomizer = random; message = message; state = state; out = out }

-- the calls of a message's signing, by texts that are equal
pub signed_as : {random c message m state s out o : List ℕ} {before printed : List ℕ} {old new : WorldCalls}
    → random ≡ c → message ≡ m → state ≡ s → out ≡ o
    → LogsSign (signing random message state out) before printed old new
    → LogsSign (signing c m s o) before printed old new
signed_as {random} {c} {message} {m} {state} {s} {out} {o} {before} {printed} {old} {new} random_is message_is
    state_is out_is is =
    subst (λ (asked : Signing). LogsSign asked before printed old new)
    (λ i. signing (random_is i) (message_is i) (state_is i) (out_is i)) is

-- the same, where it fails
pub failed_as : {random c message m state s out o : List ℕ} {before printed : List ℕ} {fault : Fault}
    {old new : WorldCalls} → random ≡ c → message ≡ m → state ≡ s → out ≡ o
    → LogsSignFailed (signing random message state out) before printed fault old new
    → LogsSignFailed (signing c m s o) before printed fault old new
failed_as {random} {c} {message} {m} {state} {s} {out} {o} {before} {printed} {fault} {old} {new} random_is message_is
    state_is out_is is =
    subst (λ (asked : Signing). LogsSignFailed asked before printed fault old new)
    (λ i. signing (random_is i) (message_is i) (state_is i) (out_is i)) is

abbrev names : List ℕ → List ℕ → List ℕ → List ℕ → List ℕ → JoinNames
names public endorsement signer signature out = record {
  public = public;
  endorsement = endorsement;
  signer = signer;
  signature = signature;
  out = out;
}

-- the same names, text by text
pub same_names : {public p endorsement e signer k signature s out o : List ℕ} → public ≡ p
    → endorsement ≡ e → signer ≡ k
    → signature ≡ s → out ≡ o → names public endorsement signer signature out ≡ names p e k s o
same_names public_is endorsement_is signer_is signature_is out_is = λ i.
    names (public_is i) (endorsement_is i) (signer_is i) (signature_is i) (out_is i)

-- the calls of `join`, by texts that are equal
pub joined_as : {one two : JoinNames} {old new : WorldCalls} → one ≡ two → LogsJoin one old new → LogsJoin two old new
joined_as {one} {two} {old} {new} same is = subst (λ (n : JoinNames). LogsJoin n old new) same is

-- the same, where it fails
pub not_joined_as : {one two : JoinNames} {fault : Fault} {old new : WorldCalls} → one ≡ two
    → LogsJoinFailed one fault old new → LogsJoinFailed two fault old new
not_joined_as {one} {two} {fault} {old} {new} same is =
    subst (λ (n : JoinNames). LogsJoinFailed n fault old new) same is

-- the calls of `inspect`, by a name that is equal
pub inspected_as : {file f : List ℕ} (result : Result Status Fault) (before printed : List ℕ) (old new : WorldCalls)
    → file ≡ f → IfOk result (λ end. LogsInspect file end before printed old new)
    → IfOk result (λ end. LogsInspect f end before printed old new)
inspected_as result before printed old new same is =
    subst (λ (file : List ℕ). IfOk result (λ end. LogsInspect file end before printed old new)) same is

-- the same, where it fails
pub not_inspected_as : {file f : List ℕ} (result : Result Status Fault) (before printed : List ℕ)
    (old new : WorldCalls) → file ≡ f
    → IfErr result (λ fault. LogsInspectFailed file fault before printed old new)
    → IfErr result (λ fault. LogsInspectFailed f fault before printed old new)
not_inspected_as result before printed old new same is =
    subst (λ (file : List ℕ). IfErr result (λ fault. LogsInspectFailed file fault before printed old new)) same is
