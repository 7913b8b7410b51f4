-- The calls that `endorse` makes on its world: those of `sign`, with a signer's key in place of a message.
use Rattle.std.specs.Prelude.{ℕ, ◌≡◌, ◌⊎◌, List, [], ◌∷◌, ◌++◌, Some, Ok, Err, Option}
use Rattle.lms_spec.specs.HashLength.{hash_length}
use Rattle.lms_join.specs.Joined.{after_count}
use Rattle.lms_blocks.specs.Writing.{AppendsFront}
use Rattle.lms_texts.specs.Options.{IsHexOf}
use Rattle.lms_world.specs.Names.{Bytes}
use Rattle.lms_world.specs.declared.fault.WorldFault.{WorldFault}
use Rattle.lms_world.specs.Events.{Acquired, Locked, NodesRead, Read, Unlocked, after}
use Rattle.lms_commands.specs.Logs.{IsLockRefused, IsReadRefused, KeyState, WorldCalls, lock_answer, read_cause}
use Rattle.lms_commands.specs.Watching.{LeavesWatched, LogsUnwatched, UnsignedWatched}
use Rattle.lms_commands.specs.declared.fault.Fault.{Fault}
use Rattle.lms_commands.specs.declared.fault.Fault.TheVariants.{BadLevels, BadPublicKey, BadRandom, OutOfMemory}
use Rattle.lms_commands.specs.declared.fault.Fault.TheVariants.{WriteOutput}
use Rattle.lms_signature_commands.specs.SignLogs.{DeliversSignature, IsRandomizer, LogsSigned, WritesSignature}
use Rattle.lms_endorse.specs.Endorsing.{IsJoinedText, IsSigner, MayEndorse, endorsed_text}
use Rattle.lms_endorse.specs.declared.endorse.EndorseRequest.{EndorseRequest}

-- what `endorse` is asked for: the texts of a randomizer and of how many levels joined keys have, and the names
-- of the files of the signer's key, the top key's state and the endorsement
pub record Endorsing : Type 0 where
  pub randomizer : Bytes
  pub joined : Bytes
  pub signer : Bytes
  pub state : Bytes
  pub out : Bytes

-- what a request asks for
abbrev pub asked_of : EndorseRequest → Endorsing
asked_of request = record {
  randomizer = request.random.now;
  joined = request.joined.now;
  signer = request.signer.now;
  state = request.state.now;
  out = request.out.now;
}

-- a signer's LMS public key is signed, as a message is, by a key that may endorse it
abbrev pub LogsEndorsed : Option (List ℕ) → List ℕ → List ℕ → ℕ → ℕ → List ℕ → WorldCalls → WorldCalls → Type 0
LogsEndorsed nodes_text random signer joined index signature old new =
    (signs : LogsSigned nodes_text random (after_count signer) index signature old new)
    × MayEndorse signs.state.key signer joined

-- why it is not: its state is not opened; or it is, the key may not endorse it, and nothing is written; or it may,
-- and its next index signs nothing
abbrev pub LogsNotEndorsed : List ℕ → ℕ → Fault → WorldCalls → WorldCalls → Type 0
LogsNotEndorsed signer joined fault old new =
    LogsUnwatched fault old new
    ⊎ ((state : KeyState)
    × (((fault ≡ BadPublicKey) × (¬ MayEndorse state.key signer joined) × LeavesWatched state old new)
    ⊎ (MayEndorse state.key signer joined × UnsignedWatched 1 fault state old new)))

-- the signature is written to its file, and then an output begins to be printed to, where this was printed before
pub record DeliversEndorsement (random signer : List ℕ) (joined : ℕ) (out : Bytes) (before : List ℕ)
    (old new : WorldCalls) : Type 0 where
  pub delivers : DeliversSignature random (after_count signer) out before old new
  pub may : MayEndorse delivers.writes.signs.state.key signer joined

-- the index that endorsed, and what is said of the signer's key
abbrev pub endorsed_lines : {random signer : List ℕ} {joined : ℕ} {out : Bytes} {before : List ℕ}
    {old new : WorldCalls} → DeliversEndorsement random signer joined out before old new → List ℕ
endorsed_lines {signer = signer} is = endorsed_text is.delivers.writes.index signer

-- why no endorsement is delivered under a lock: where it is not written nothing is printed, and else of its lines a
-- beginning at most
abbrev pub LogsUnendorsed : List ℕ → List ℕ → ℕ → Bytes → List ℕ → List ℕ → Fault → WorldCalls → WorldCalls
    → Type 0
LogsUnendorsed random signer joined out before printed fault old new =
    ((nodes : Option (List ℕ)) × LogsNotEndorsed signer joined fault (after (NodesRead nodes ∷ []) old) new
    × (printed ≡ before))
    ⊎ ((fault ≡ WriteOutput)
    × (((cause : WorldFault) × (writes : WritesSignature random (after_count signer) out (Err cause) old new)
    × MayEndorse writes.signs.state.key signer joined × (printed ≡ before))
    ⊎ ((is : DeliversEndorsement random signer joined out before old new)
    × AppendsFront (Some before) (Some printed) (endorsed_lines is))))

-- the calls up to where the signer's key is read and the lock is acquired
abbrev pub until_locked : Endorsing → List ℕ → WorldCalls → WorldCalls
until_locked asked signer old = after (Read asked.signer (Ok signer) ∷ Locked asked.state Acquired ∷ []) old

-- all calls of `endorse`: the signer's key is read, and then from the lock on until that is handed back; the index
-- and the signer's hash are printed
abbrev pub LogsEndorse : Endorsing → List ℕ → List ℕ → WorldCalls → WorldCalls → Type 0
LogsEndorse asked before printed old new =
    (c signer : List ℕ) × (joined : ℕ) × (last : WorldCalls) × IsRandomizer asked.randomizer c
    × IsJoinedText asked.joined joined × IsSigner signer
    × ((is : DeliversEndorsement c signer joined asked.out before (until_locked asked signer old) last)
    × (printed ≡ before ++ endorsed_lines is))
    × (new ≡ after (Unlocked ∷ []) last)

-- the options spell a randomizer and a number of levels
abbrev pub AreSpelt : Endorsing → Type 0
AreSpelt asked = IsHexOf hash_length asked.randomizer × ((joined : ℕ) × IsJoinedText asked.joined joined)

-- the option spells no randomizer, and no call is made
abbrev pub HasNoRandomizer : Endorsing → List ℕ → List ℕ → Fault → WorldCalls → WorldCalls → Type 0
HasNoRandomizer asked before printed fault old new =
    (fault ≡ BadRandom) × (new ≡ old) × (printed ≡ before) × ¬ IsHexOf hash_length asked.randomizer

-- the other spells no number of levels, and no call is made
abbrev pub HasNoLevels : Endorsing → List ℕ → List ℕ → Fault → WorldCalls → WorldCalls → Type 0
HasNoLevels asked before printed fault old new =
    (fault ≡ BadLevels) × (new ≡ old) × (printed ≡ before) × IsHexOf hash_length asked.randomizer
    × ((joined : ℕ) → ¬ IsJoinedText asked.joined joined)

-- memory is refused for what the file of the endorsement needs, and no call is made
abbrev pub PlansNoFile : Endorsing → List ℕ → List ℕ → Fault → WorldCalls → WorldCalls → Type 0
PlansNoFile asked before printed fault old new =
    (fault ≡ OutOfMemory) × (new ≡ old) × (printed ≡ before) × AreSpelt asked

-- the signer's key is not read
abbrev pub ReadsNoSigner : Endorsing → List ℕ → List ℕ → Fault → WorldCalls → WorldCalls → Type 0
ReadsNoSigner asked before printed fault old new =
    IsReadRefused fault × (new ≡ after (Read asked.signer (Err (read_cause fault)) ∷ []) old)
    × (printed ≡ before) × AreSpelt asked

-- why there is nothing to endorse: what was read is no public key, or memory is refused for what is signed of it
abbrev pub IsNoOrder : List ℕ → Fault → Type 0
IsNoOrder signer fault =
    ((fault ≡ BadPublicKey) × ¬ IsSigner signer) ⊎ ((fault ≡ OutOfMemory) × IsSigner signer)

-- so it is
abbrev pub HasNoSigner : Endorsing → List ℕ → List ℕ → Fault → WorldCalls → WorldCalls → Type 0
HasNoSigner asked before printed fault old new =
    (signer : List ℕ) × IsNoOrder signer fault × (new ≡ after (Read asked.signer (Ok signer) ∷ []) old)
    × (printed ≡ before) × AreSpelt asked

-- the lock is not acquired
abbrev pub LocksNoState : Endorsing → List ℕ → List ℕ → Fault → WorldCalls → WorldCalls → Type 0
LocksNoState asked before printed fault old new =
    (signer : List ℕ) × IsLockRefused fault × IsSigner signer
    × (new ≡ after (Read asked.signer (Ok signer) ∷ Locked asked.state (lock_answer fault) ∷ []) old)
    × (printed ≡ before) × AreSpelt asked

-- no endorsement is delivered under the lock
abbrev pub DeliversNone : Endorsing → List ℕ → List ℕ → Fault → WorldCalls → WorldCalls → Type 0
DeliversNone asked before printed fault old new =
    (c signer : List ℕ) × (joined : ℕ) × (last : WorldCalls) × IsRandomizer asked.randomizer c
    × IsJoinedText asked.joined joined × IsSigner signer
    × LogsUnendorsed c signer joined asked.out before printed fault (until_locked asked signer old) last
    × (new ≡ after (Unlocked ∷ []) last)

-- all calls of `endorse` where it fails
abbrev pub LogsEndorseFailed : Endorsing → List ℕ → List ℕ → Fault → WorldCalls → WorldCalls → Type 0
LogsEndorseFailed asked before printed fault old new =
    HasNoRandomizer asked before printed fault old new
    ⊎ (HasNoLevels asked before printed fault old new
    ⊎ (PlansNoFile asked before printed fault old new
    ⊎ (ReadsNoSigner asked before printed fault old new
    ⊎ (HasNoSigner asked before printed fault old new
    ⊎ (LocksNoState asked before printed fault old new
    ⊎ DeliversNone asked before printed fault old new)))))
