-- The calls that `join` and `join-public` make on their world: files are read, and then one is
-- written. No state is locked or stored.
use Rattle.std.specs.Prelude.{ℕ, ◌≡◌, ◌⊎◌, ◌↔◌, List, [], ◌∷◌, Ok, Err}
use Rattle.lms_spec.specs.Hss.{HssAccepts}
use Rattle.lms_join.specs.Joined.{after_count, joined_public, joined_signature}
use Rattle.lms_join.specs.Keys.{AreJoinable}
use Rattle.lms_join.specs.Endorsements.{HasMessageHead, IsEndorsed}
use Rattle.lms_world.specs.Names.{Bytes}
use Rattle.lms_world.specs.Events.{Read, Written, after}
use Rattle.lms_commands.specs.Logs.{IsReadRefused, IsWriteRefused, WorldCalls, read_cause, write_cause}
use Rattle.lms_commands.specs.declared.fault.Fault.{Fault}
use Rattle.lms_commands.specs.declared.fault.Fault.TheVariants.{BadEndorsement, BadPublicKey, BadSignature, OutOfMemory}

-- two files are read, one after the other
abbrev pub ReadsTwo : Bytes → Bytes → List ℕ → List ℕ → WorldCalls → WorldCalls → Type 0
ReadsTwo first second one two old new =
    new ≡ after (Read first (Ok one) ∷ Read second (Ok two) ∷ []) old

-- the first is not read, or it is, and the second is not
abbrev pub FailsToReadTwo : Bytes → Bytes → Fault → WorldCalls → WorldCalls → Type 0
FailsToReadTwo first second fault old new =
    IsReadRefused fault
    × ((new ≡ after (Read first (Err (read_cause fault)) ∷ []) old)
    ⊎ ((one : List ℕ)
    × (new ≡ after (Read first (Ok one) ∷ Read second (Err (read_cause fault)) ∷ []) old)))

-- the files that `join` reads and writes
pub record JoinNames : Type 0 where
  pub public : Bytes
  pub endorsement : Bytes
  pub signer : Bytes
  pub signature : Bytes
  pub out : Bytes

-- a top public key, its endorsement of a signer's key, that key's public key and its signature
pub record JoinParts : Type 0 where
  pub public : List ℕ
  pub endorsement : List ℕ
  pub signer : List ℕ
  pub signature : List ℕ

-- the bytes are the joined signature: the endorsement is accepted, and the bytes are, under the
-- joined public key, for just the messages for which the signer's signature is
pub record JoinsParts (parts : JoinParts) (joined : List ℕ) : Type 0 where
  pub endorsed : IsEndorsed parts.public parts.endorsement parts.signer
  pub head : HasMessageHead parts.signer parts.signature
  pub bytes : joined
      ≡ joined_signature parts.public parts.endorsement parts.signer parts.signature
  pub accepted : (message : List ℕ)
      → (HssAccepts (joined_public parts.public parts.signer) message joined
      ↔ HssAccepts parts.signer message parts.signature)

-- why there is no endorsement, in the order in which that is found
abbrev pub AreUnendorsed : List ℕ → List ℕ → List ℕ → Fault → Type 0
AreUnendorsed public endorsement signer fault =
    ((fault ≡ BadPublicKey) × ¬ AreJoinable public signer)
    ⊎ ((fault ≡ BadEndorsement) × AreJoinable public signer
    × ¬ HssAccepts public (after_count signer) endorsement)

-- why parts are not joined, in the order in which that is found
abbrev pub AreUnjoined : JoinParts → Fault → Type 0
AreUnjoined parts fault =
    AreUnendorsed parts.public parts.endorsement parts.signer fault
    ⊎ (IsEndorsed parts.public parts.endorsement parts.signer
    × (((fault ≡ BadSignature) × ¬ HasMessageHead parts.signer parts.signature)
    ⊎ ((fault ≡ OutOfMemory) × HasMessageHead parts.signer parts.signature)))

-- all four are read
abbrev pub ReadsParts : JoinNames → JoinParts → WorldCalls → WorldCalls → Type 0
ReadsParts names parts old new =
    new ≡ after
    (Read names.public (Ok parts.public) ∷ Read names.endorsement (Ok parts.endorsement)
    ∷ Read names.signer (Ok parts.signer) ∷ Read names.signature (Ok parts.signature) ∷ [])
    old

-- one is not, and none after it
abbrev pub FailsToReadParts : JoinNames → Fault → WorldCalls → WorldCalls → Type 0
FailsToReadParts names fault old new =
    FailsToReadTwo names.public names.endorsement fault old new
    ⊎ ((one two : List ℕ) × (last : WorldCalls)
    × ReadsTwo names.public names.endorsement one two old last
    × FailsToReadTwo names.signer names.signature fault last new)

-- all calls of `join`: four files are read, and then the joined signature is written, once
abbrev pub LogsJoin : JoinNames → WorldCalls → WorldCalls → Type 0
LogsJoin names old new =
    (parts : JoinParts) × (joined : List ℕ) × (last : WorldCalls)
    × ReadsParts names parts old last × JoinsParts parts joined
    × (new ≡ after (Written names.out joined (Ok tt) ∷ []) last)

-- the same, where it fails: a file is not read, what is read is not joined, or it is not written
abbrev pub LogsJoinFailed : JoinNames → Fault → WorldCalls → WorldCalls → Type 0
LogsJoinFailed names fault old new =
    FailsToReadParts names fault old new
    ⊎ ((parts : JoinParts) × (last : WorldCalls) × ReadsParts names parts old last
    × ((AreUnjoined parts fault × (new ≡ last))
    ⊎ ((joined : List ℕ) × JoinsParts parts joined × IsWriteRefused fault
    × (new ≡ after (Written names.out joined (Err (write_cause fault)) ∷ []) last))))

-- why two public keys are not joined: they can't be, or memory is refused for what the file of the joined one needs
abbrev pub AreUnjoinedKeys : List ℕ → List ℕ → Fault → Type 0
AreUnjoinedKeys top_public signer_public fault =
    ((fault ≡ BadPublicKey) × ¬ AreJoinable top_public signer_public)
    ⊎ ((fault ≡ OutOfMemory) × AreJoinable top_public signer_public)

-- all calls of `join-public`: two files are read, and then the joined public key is written, once
abbrev pub LogsJoinKeys : Bytes → Bytes → Bytes → WorldCalls → WorldCalls → Type 0
LogsJoinKeys public signer out old new =
    (top_public signer_public : List ℕ) × (last : WorldCalls)
    × ReadsTwo public signer top_public signer_public old last
    × AreJoinable top_public signer_public
    × (new ≡ after (Written out (joined_public top_public signer_public) (Ok tt) ∷ []) last)

-- the same, where it fails
abbrev pub LogsJoinKeysFailed : Bytes → Bytes → Bytes → Fault → WorldCalls → WorldCalls → Type 0
LogsJoinKeysFailed public signer out fault old new =
    FailsToReadTwo public signer fault old new
    ⊎ ((top_public signer_public : List ℕ) × (last : WorldCalls)
    × ReadsTwo public signer top_public signer_public old last
    × ((AreUnjoinedKeys top_public signer_public fault × (new ≡ last))
    ⊎ (AreJoinable top_public signer_public × IsWriteRefused fault
    × (new ≡ after
    (Written out (joined_public top_public signer_public) (Err (write_cause fault)) ∷ []) last))))
