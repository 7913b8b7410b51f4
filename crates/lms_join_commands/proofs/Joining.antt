-- What the commands that join logged, by what their steps did.
use Rattle.std.proofs.Common.{◌≡◌, ◌∙◌, ◌∷◌, ◌↔◌, ℕ, List, Result, Ok, Err, ap, inr, subst₂}
use Rattle.std.specs.Prelude.{IfErr, OnOk}
use Rattle.lms_spec.specs.Hss.{HssAccepts}
use Rattle.lms_join.specs.Endorsements.{EndorsementParts, HasMessageHead, IsEndorsed}
use Rattle.lms_join.specs.Joined.{joined_public, joined_signature}
use Rattle.lms_join.specs.Keys.{AreJoinable}
use Rattle.lms_world.specs.Names.{Bytes}
use Rattle.lms_world.specs.Events.{Read, Written}
use Rattle.lms_commands.specs.Logs.{IsWriteRefused, WorldCalls, write_cause, written_so}
use Rattle.lms_commands.specs.declared.fault.Fault.{Fault}
use Rattle.lms_join_commands.specs.JoinLogs.{JoinNames, JoinParts, JoinsParts, LogsJoin, LogsJoinFailed, LogsJoinKeys}
use Rattle.lms_join_commands.specs.JoinLogs.{LogsJoinKeysFailed, ReadsParts, ReadsTwo}

-- two files and then two more
pub reads_parts : (names : JoinNames) (parts : JoinParts) (old mid new : WorldCalls)
    → ReadsTwo names.public names.endorsement parts.public parts.endorsement old mid
    → ReadsTwo names.signer names.signature parts.signer parts.signature mid new → ReadsParts names parts old new
reads_parts names parts old mid new first then =
    then ∙ ap
    (λ (log : WorldCalls). Read names.signature (Ok parts.signature) ∷ Read names.signer (Ok parts.signer) ∷ log)
    first

-- the joined signature was written, or not
pub joined_and_written : {T : Type 0} (result : Result T Fault) (names : JoinNames) (parts : JoinParts)
    (joined : List ℕ)
    (old last new : WorldCalls) → ReadsParts names parts old last → JoinsParts parts joined
    → new ≡ Written names.out joined (written_so result) ∷ last → OnOk result (LogsJoin names old new)
joined_and_written (Ok done) names parts joined old last new reads joins calls =
    (parts, joined, last, reads, joins, calls)
joined_and_written (Err fault) names parts joined old last new reads joins calls = tt

pub joined_not_written : {T : Type 0} (result : Result T Fault) (names : JoinNames) (parts : JoinParts)
    (joined : List ℕ)
    (old last new : WorldCalls) → ReadsParts names parts old last → JoinsParts parts joined
    → IfErr result IsWriteRefused → new ≡ Written names.out joined (written_so result) ∷ last
    → IfErr result (λ fault. LogsJoinFailed names fault old new)
joined_not_written (Ok done) names parts joined old last new reads joins refused calls = tt
joined_not_written (Err fault) names parts joined old last new reads joins refused calls =
    inr (parts, last, reads, inr (joined, joins, refused, calls))

-- the joined public key was written, or not
pub key_written : {T : Type 0} (result : Result T Fault) (public signer out : Bytes)
    (top_public signer_public key : List ℕ) (old last new : WorldCalls)
    → ReadsTwo public signer top_public signer_public old last → AreJoinable top_public signer_public
    → key ≡ joined_public top_public signer_public → new ≡ Written out key (written_so result) ∷ last
    → OnOk result (LogsJoinKeys public signer out old new)
key_written (Ok done) public signer out top_public signer_public key old last new reads joinable is calls =
    let writes = calls ∙ ap (λ (bytes : List ℕ). Written out bytes (Ok tt) ∷ last) is in
    (top_public, signer_public, last, reads, joinable, writes)
key_written (Err fault) public signer out top_public signer_public key old last new reads joinable is calls = tt

pub key_not_written : {T : Type 0} (result : Result T Fault) (public signer out : Bytes)
    (top_public signer_public key : List ℕ) (old last new : WorldCalls)
    → ReadsTwo public signer top_public signer_public old last → AreJoinable top_public signer_public
    → key ≡ joined_public top_public signer_public → IfErr result IsWriteRefused
    → new ≡ Written out key (written_so result) ∷ last
    → IfErr result (λ fault. LogsJoinKeysFailed public signer out fault old new)
key_not_written (Ok done) public signer out top_public signer_public key old last new reads joinable is refused calls =
    tt
key_not_written (Err fault) public signer out top_public signer_public key old last new reads joinable is refused
    calls =
    inr (
      top_public,
      signer_public,
      last,
      reads,
      inr (
        joinable,
        refused,
        calls ∙ ap (λ (bytes : List ℕ). Written out bytes (Err (write_cause fault)) ∷ last) is,
      ),
    )

-- ---- what is joined, by what an endorsement promises

abbrev pub seen : List ℕ → List ℕ → List ℕ → EndorsementParts
seen public endorsement signer =
    record { top_public = public; endorsement = endorsement; signer_public = signer }

-- the same, byte string by byte string
pub same_seen : {public p endorsement e signer k : List ℕ} → public ≡ p → endorsement ≡ e → signer ≡ k
    → seen public endorsement signer ≡ seen p e k
same_seen public_is endorsement_is signer_is = λ i. seen (public_is i) (endorsement_is i) (signer_is i)

abbrev pub Endorsed : EndorsementParts → Type 0
Endorsed it = IsEndorsed it.top_public it.endorsement it.signer_public

-- what is joined with a signature
pub record IsJoinedWith (it : EndorsementParts) (signature joined : List ℕ) : Type 0 where
  pub endorsed : Endorsed it
  pub head : HasMessageHead it.signer_public signature
  pub bytes : joined ≡ joined_signature it.top_public it.endorsement it.signer_public signature
  pub accepted : (message : List ℕ)
      → (HssAccepts (joined_public it.top_public it.signer_public) message joined
      ↔ HssAccepts it.signer_public message signature)

pub joins_parts : (parts : JoinParts) (it : EndorsementParts) (signature joined : List ℕ)
    → it ≡ seen parts.public parts.endorsement parts.signer → signature ≡ parts.signature
    → IsJoinedWith it signature joined → JoinsParts parts joined
joins_parts parts it signature joined it_is signature_is is =
    let here = subst₂ (λ (e : EndorsementParts) (s : List ℕ). IsJoinedWith e s joined) it_is signature_is is in
    record { endorsed = here.endorsed; head = here.head; bytes = here.bytes; accepted = here.accepted }

-- and what is said of the signer's key and the signature
pub judged : (Says : List ℕ → List ℕ → Type 0) (parts : JoinParts) (it : EndorsementParts) (signature : List ℕ)
    → it ≡ seen parts.public parts.endorsement parts.signer → signature ≡ parts.signature
    → Says it.signer_public signature → Says parts.signer parts.signature
judged Says parts it signature it_is signature_is said =
    subst₂ (λ (e : EndorsementParts) (s : List ℕ). Says e.signer_public s) it_is signature_is said
