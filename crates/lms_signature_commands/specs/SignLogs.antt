-- The calls that `sign` makes on its world.
use Rattle.std.specs.Prelude.{◌≡◌, ◌⊎◌, List, [], ◌∷◌, ◌++◌, ℕ, Option, Some, Ok, Err, codes, length}
use Rattle.hex.specs.Hex.{decode_of}
use Rattle.lms_kept.specs.Signed.{IsSignedByText}
use Rattle.lms_kept.specs.Ways.{Way}
use Rattle.lms_blocks.specs.Writing.{AppendsFront}
use Rattle.lms_world.specs.Names.{Bytes}
use Rattle.lms_world.specs.declared.fault.WorldFault.{WorldFault}
use Rattle.lms_world.specs.Events.{Acquired, Read, Written, Locked, Unlocked, NodesRead, Printing, Writing, after}
use Rattle.lms_texts.specs.Descriptions.{number_line}
use Rattle.lms_commands.specs.Logs.{IsLockRefused, IsReadRefused, KeyState, WorldCalls, LogsKeeping}
use Rattle.lms_commands.specs.Logs.{lock_answer, read_cause}
use Rattle.lms_commands.specs.Watching.{LogsUnwatched, UnsignedWatched, UsesWatched}
use Rattle.lms_texts.specs.Options.{IsHexOf}
use Rattle.lms_spec.specs.HashLength.{hash_length}
use Rattle.lms_commands.specs.declared.fault.Fault.{Fault}
use Rattle.lms_commands.specs.declared.fault.Fault.TheVariants.{BadRandom, OutOfMemory, WriteOutput}
use Rattle.lms_signature_commands.specs.declared.sign.SignRequest.{SignRequest}

-- the use of a state's next index is stored for certain, and said by its witness, where it has one,
-- and then trees may be kept; the signature is one by that index of its key: the standard's, where the
-- nodes that were read are right or none were
pub record LogsSigned (nodes_text : Option (List ℕ)) (random message : List ℕ) (index : ℕ)
    (signature : List ℕ) (old new : WorldCalls) : Type 0 where
  pub state : KeyState
  pub to_keep : Option Way
  pub until_stored : WorldCalls
  pub next : index ≡ state.index
  pub stores : UsesWatched 1 state old until_stored
  pub keeps : LogsKeeping to_keep until_stored new
  pub signed : IsSignedByText nodes_text state.key index random message signature to_keep

-- why a message is not signed
abbrev pub LogsNotSigned : Fault → WorldCalls → WorldCalls → Type 0
LogsNotSigned fault old new =
    LogsUnwatched fault old new ⊎ ((state : KeyState) × UnsignedWatched 1 fault state old new)

-- kept nodes are asked for, the message is signed, and then the signature is written to its file,
-- once
pub record WritesSignature (random message : List ℕ) (out : Bytes) (answer : Writing)
    (old new : WorldCalls) : Type 0 where
  pub nodes : Option (List ℕ)
  pub index : ℕ
  pub signature : List ℕ
  pub until_signed : WorldCalls
  pub signs : LogsSigned nodes random message index signature
      (after (NodesRead nodes ∷ []) old) until_signed
  pub writes : new ≡ after (Written out signature answer ∷ []) until_signed

-- the signature is written so, and then an output begins to be printed to, where this was printed before
pub record DeliversSignature (random message : List ℕ) (out : Bytes) (before : List ℕ)
    (old new : WorldCalls) : Type 0 where
  pub until_written : WorldCalls
  pub writes : WritesSignature random message out (Ok tt) old until_written
  pub prints : new ≡ after (Printing before ∷ []) until_written

-- the line of the index that signed
abbrev pub index_line : {random message : List ℕ} {out : Bytes} {answer : Writing}
    {old new : WorldCalls} → WritesSignature random message out answer old new → List ℕ
index_line writes = number_line (codes "index") writes.index

-- why no signature is delivered under a lock: where it is not written nothing is printed, and else
-- of the index's line a beginning at most
abbrev pub LogsUndelivered : List ℕ → List ℕ → Bytes → List ℕ → List ℕ → Fault → WorldCalls
    → WorldCalls → Type 0
LogsUndelivered random message out before printed fault old new =
    ((nodes : Option (List ℕ)) × LogsNotSigned fault (after (NodesRead nodes ∷ []) old) new
    × (printed ≡ before))
    ⊎ ((fault ≡ WriteOutput)
    × (((cause : WorldFault) × WritesSignature random message out (Err cause) old new
    × (printed ≡ before))
    ⊎ ((delivers : DeliversSignature random message out before old new)
    × AppendsFront (Some before) (Some printed) (index_line delivers.writes))))

-- the text is 32 bytes in hexadecimal, these
abbrev pub IsRandomizer : Bytes → List ℕ → Type 0
IsRandomizer text c = (length c ≡ hash_length) × (decode_of text ≡ Ok c)

-- what `sign` is asked for: the text of a randomizer, and the names of the files of the message, the
-- key's state and the signature
pub record Signing : Type 0 where
  pub randomizer : Bytes
  pub message : Bytes
  pub state : Bytes
  pub out : Bytes

-- what a request asks for
abbrev pub asked_of : SignRequest → Signing
asked_of request = record {
  randomizer = request.random.now;
  message = request.message.now;
  state = request.state.now;
  out = request.out.now;
}

-- the calls up to where the message is read and the lock is acquired
abbrev pub until_locked : Signing → List ℕ → WorldCalls → WorldCalls
until_locked asked text old = after (Read asked.message (Ok text) ∷ Locked asked.state Acquired ∷ []) old

-- all calls of `sign`: the message is read, and then from the lock on until that is handed back; the index that signed
-- is printed
abbrev pub LogsSign : Signing → List ℕ → List ℕ → WorldCalls → WorldCalls → Type 0
LogsSign asked before printed old new =
    (c text : List ℕ) × (last : WorldCalls) × IsRandomizer asked.randomizer c
    × ((delivers : DeliversSignature c text asked.out before (until_locked asked text old) last)
    × (printed ≡ before ++ index_line delivers.writes))
    × (new ≡ after (Unlocked ∷ []) last)

-- the option spells no randomizer, and no call is made
abbrev pub HasNoRandomizer : Signing → List ℕ → List ℕ → Fault → WorldCalls → WorldCalls → Type 0
HasNoRandomizer asked before printed fault old new =
    (fault ≡ BadRandom) × (new ≡ old) × (printed ≡ before) × ¬ IsHexOf hash_length asked.randomizer

-- memory is refused for what the file of the signature needs, and no call is made
abbrev pub PlansNoFile : Signing → List ℕ → List ℕ → Fault → WorldCalls → WorldCalls → Type 0
PlansNoFile asked before printed fault old new =
    (fault ≡ OutOfMemory) × (new ≡ old) × (printed ≡ before) × IsHexOf hash_length asked.randomizer

-- the message is not read
abbrev pub ReadsNoMessage : Signing → List ℕ → List ℕ → Fault → WorldCalls → WorldCalls → Type 0
ReadsNoMessage asked before printed fault old new =
    IsReadRefused fault × (new ≡ after (Read asked.message (Err (read_cause fault)) ∷ []) old)
    × (printed ≡ before) × IsHexOf hash_length asked.randomizer

-- the lock is not acquired
abbrev pub LocksNoState : Signing → List ℕ → List ℕ → Fault → WorldCalls → WorldCalls → Type 0
LocksNoState asked before printed fault old new =
    (text : List ℕ) × IsLockRefused fault
    × (new ≡ after (Read asked.message (Ok text) ∷ Locked asked.state (lock_answer fault) ∷ []) old)
    × (printed ≡ before) × IsHexOf hash_length asked.randomizer

-- no signature is delivered under the lock
abbrev pub DeliversNone : Signing → List ℕ → List ℕ → Fault → WorldCalls → WorldCalls → Type 0
DeliversNone asked before printed fault old new =
    (c text : List ℕ) × (last : WorldCalls) × IsRandomizer asked.randomizer c
    × LogsUndelivered c text asked.out before printed fault (until_locked asked text old) last
    × (new ≡ after (Unlocked ∷ []) last)

-- all calls of `sign` where it fails
abbrev pub LogsSignFailed : Signing → List ℕ → List ℕ → Fault → WorldCalls → WorldCalls → Type 0
LogsSignFailed asked before printed fault old new =
    HasNoRandomizer asked before printed fault old new
    ⊎ (PlansNoFile asked before printed fault old new
    ⊎ (ReadsNoMessage asked before printed fault old new
    ⊎ (LocksNoState asked before printed fault old new
    ⊎ DeliversNone asked before printed fault old new)))
