-- The calls that `keygen` makes on its world.
use Rattle.std.specs.Prelude.{◌≡◌, ◌⊎◌, List, [], ◌∷◌, ◌++◌, true, false, ℕ, Option, Some, None, Ok, Err, IfSome, codes}
use Rattle.lms_spec.specs.Hss.{capacity_of}
use Rattle.lms_spec.specs.Profile.{hss_public_key}
use Rattle.lms_hss.specs.Keys.{hss_key_of}
use Rattle.lms_hss.specs.declared.key.HssKey.{HssKey as KeyOfCode}
use Rattle.lms_image.specs.Image.{image_of}
use Rattle.lms_kept.specs.Ways.{AreGenuine, IsWay, Way}
use Rattle.lms_blocks.specs.Writing.{AppendsFront}
use Rattle.lms_texts.specs.Descriptions.{number_line}
use Rattle.lms_book.specs.Stops.{StoreView, FailsToWrite, after_write}
use Rattle.lms_world.specs.Names.{Bytes}
use Rattle.lms_world.specs.Events.{Acquired, Written, Locked, Unlocked, Asked, Taken, Taking, Printing, Writing, after}
use Rattle.lms_world.specs.Events.{WitnessRead}
use Rattle.lms_commands.specs.Logs.{IsLockRefused, IsWriteRefused, WorldCalls, LogsKeeping, PutsBack, lock_answer}
use Rattle.lms_commands.specs.Logs.{write_cause}
use Rattle.lms_key_commands.specs.WitnessLogs.{LogsWitnessThere}
use Rattle.lms_commands.specs.declared.fault.Fault.{Fault}
use Rattle.lms_commands.specs.declared.fault.Fault.TheVariants.{StateExists, WriteState, OutOfMemory, WriteOutput}

-- a new key's state is stored for certain: nothing else is written to its store
abbrev pub StoresKey : KeyOfCode → WorldCalls → WorldCalls → Type 0
StoresKey key old new =
    (taken : Taking) × PutsBack taken (after_write (image_of key 0 0 0) taken.view) old new

-- why it is not stored in a store that is taken out, and what is left of that: memory is refused for the top tree, and
-- the store is as it was; or the store fails
abbrev pub LeavesUnstored : KeyOfCode → Fault → StoreView → StoreView → Type 0
LeavesUnstored key fault taken left =
    ((fault ≡ OutOfMemory) × (left ≡ taken))
    ⊎ ((fault ≡ WriteState) × FailsToWrite (image_of key 0 0 0) taken left)

-- why it is not stored: memory is refused for its store, or that is put back without it
abbrev pub LogsUnstored : KeyOfCode → Fault → WorldCalls → WorldCalls → Type 0
LogsUnstored key fault old new =
    ((fault ≡ OutOfMemory) × (new ≡ after (Taken None ∷ []) old))
    ⊎ ((taken : Taking) × (left : StoreView) × LeavesUnstored key fault taken.view left
    × PutsBack taken left old new)

-- trees of this key, where there are any, with the nodes that they have
abbrev pub AreGenuineTrees : KeyOfCode → Option Way → Type 0
AreGenuineTrees key trees =
    IfSome trees (λ way. IsWay way × (way.key ≡ key) × AreGenuine way)

-- the calls up to where it is found that there is neither a state nor a witness
abbrev pub finding_none : WorldCalls → WorldCalls
finding_none old = after (Asked false ∷ WitnessRead (Ok None) ∷ []) old

-- a new key's state is stored where there was neither a state nor a witness, trees of the key may be kept, and then the
-- public key is written to its file, once, which comes to this answer
pub record WritesKey (key : KeyOfCode) (public : Bytes) (answer : Writing)
    (old new : WorldCalls) : Type 0 where
  pub trees : Option Way
  pub genuine : AreGenuineTrees key trees
  pub until_stored : WorldCalls
  pub until_kept : WorldCalls
  pub stores : StoresKey key (finding_none old) until_stored
  pub keeps : LogsKeeping trees until_stored until_kept
  pub writes : new
      ≡ after (Written public (hss_public_key (hss_key_of key)) answer ∷ []) until_kept

-- so the public key is written, and then an output begins to be printed to, where this was printed before
pub record PublishesKey (key : KeyOfCode) (public : Bytes) (before : List ℕ)
    (old new : WorldCalls) : Type 0 where
  pub until_written : WorldCalls
  pub writes : WritesKey key public (Ok tt) old until_written
  pub prints : new ≡ after (Printing before ∷ []) until_written

-- the line of a key's capacity
abbrev pub capacity_line : KeyOfCode → List ℕ
capacity_line key = number_line (codes "capacity") (capacity_of (hss_key_of key))

-- why no key is made under a lock
abbrev pub LogsUnmade : KeyOfCode → Bytes → List ℕ → List ℕ → Fault → WorldCalls → WorldCalls
    → Type 0
LogsUnmade key public before printed fault old new =
    ((printed ≡ before)
    × (((fault ≡ StateExists) × (new ≡ after (Asked true ∷ []) old))
    ⊎ (LogsWitnessThere fault (after (Asked false ∷ []) old) new
    ⊎ (LogsUnstored key fault (finding_none old) new
    ⊎ (IsWriteRefused fault × WritesKey key public (Err (write_cause fault)) old new)))))
    ⊎ ((fault ≡ WriteOutput) × PublishesKey key public before old new
    × AppendsFront (Some before) (Some printed) (capacity_line key))

-- all calls of `keygen`, from its lock on until that is handed back
abbrev pub LogsKeygen : KeyOfCode → Bytes → Bytes → List ℕ → List ℕ → WorldCalls → WorldCalls
    → Type 0
LogsKeygen key state public before printed old new =
    (last : WorldCalls) × PublishesKey key public before (after (Locked state Acquired ∷ []) old) last
    × (printed ≡ before ++ capacity_line key)
    × (new ≡ after (Unlocked ∷ []) last)

-- the same, where it fails: no call is made, since memory is refused for what the file of the public key needs; or the
-- state is not locked, or no key is made under the lock
abbrev pub LogsKeygenFailed : KeyOfCode → Bytes → Bytes → List ℕ → List ℕ → Fault → WorldCalls
    → WorldCalls → Type 0
LogsKeygenFailed key state public before printed fault old new =
    ((fault ≡ OutOfMemory) × (new ≡ old) × (printed ≡ before))
    ⊎ ((IsLockRefused fault × (new ≡ after (Locked state (lock_answer fault) ∷ []) old) × (printed ≡ before))
    ⊎ ((last : WorldCalls)
    × LogsUnmade key public before printed fault (after (Locked state Acquired ∷ []) old) last
    × (new ≡ after (Unlocked ∷ []) last)))
