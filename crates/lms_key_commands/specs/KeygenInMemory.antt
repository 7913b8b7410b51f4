-- What `keygen` leaves in a world in memory, by its calls.
use Rattle.std.specs.Prelude.{ℕ, ◌≡◌, ◌⊎◌, List, true, false, Option, Some, None, Ok}
use Rattle.lms_spec.specs.Profile.{hss_public_key}
use Rattle.lms_hss.specs.Keys.{hss_key_of}
use Rattle.lms_hss.specs.declared.key.HssKey.{HssKey as KeyOfCode}
use Rattle.lms_image.specs.Image.{image_of}
use Rattle.lms_book.specs.Stops.{IsLeftBy, only}
use Rattle.lms_kept.specs.Ways.{Way}
use Rattle.lms_world.specs.Names.{Bytes}
use Rattle.lms_world.specs.Held.{Follows, Held, MayRefuse, is_there}
use Rattle.lms_commands.specs.InMemory.{FailsToLock, KeepsNodes, KeepsRight, Stays, WritesFile}
use Rattle.lms_key_commands.specs.KeygenLogs.{AreGenuineTrees, LogsKeygen, LogsKeygenFailed}
use Rattle.lms_key_commands.specs.WitnessInMemory.{WitnessWasThere}
use Rattle.lms_commands.specs.Logs.{IsWriteRefused, WorldCalls, write_cause}
use Rattle.lms_commands.specs.declared.fault.Fault.{Fault}
use Rattle.lms_commands.specs.declared.fault.Fault.TheVariants.{OutOfMemory, StateExists, WriteOutput, WriteState}

-- there was neither a state nor a witness, and now there is this key's state, of which no index is
-- used; nodes of its trees may be kept
pub record MakesKey (key : KeyOfCode) (old new : Held) : Type 0 where
  pub free : old.in_use ≡ false
  pub none_was : is_there old.state ≡ false
  pub unwatched : old.witness ≡ Ok None
  pub witness : new.witness ≡ old.witness
  pub stored : new.state ≡ only (image_of key 0 0 0)
  pub trees : Option Way
  pub genuine : AreGenuineTrees key trees
  pub kept : KeepsNodes trees old.nodes new.nodes

-- the file of this name holds RFC 8554's public key, and no other file is changed
abbrev pub PublishesIn : KeyOfCode → Bytes → Held → Held → Type 0
PublishesIn key public old new =
    WritesFile public (hss_public_key (hss_key_of key)) old.files new.files

-- of a world in memory, `keygen` at status 0 makes its key and publishes it
abbrev pub MakesKeyInMemory : Type 0
MakesKeyInMemory = (key : KeyOfCode) (state public : Bytes) (before printed : List ℕ)
    (old new : Held) (earlier now : WorldCalls)
    → LogsKeygen key state public before printed earlier now
    → Follows (Some old) earlier (Some new) now
    → MakesKey key old new × PublishesIn key public old new

-- there was neither a state nor a witness, and now there may be the key's state, or may not: its store failed
pub record MayMakeKey (key : KeyOfCode) (old new : Held) : Type 0 where
  pub free : old.in_use ≡ false
  pub none_was : is_there old.state ≡ false
  pub unwatched : old.witness ≡ Ok None
  pub witness : new.witness ≡ old.witness
  pub files : new.files ≡ old.files
  pub nodes : new.nodes ≡ old.nodes
  pub left : (new.state ≡ old.state) ⊎ IsLeftBy (image_of key 0 0 0) old.state new.state

-- why no key is made, or none published, or its capacity is not printed, in the order in which that is found
abbrev pub FailsToMakeKey : KeyOfCode → Bytes → Fault → Held → Held → Type 0
FailsToMakeKey key public fault old new =
    FailsToLock fault old new
    ⊎ (((fault ≡ StateExists) × (old.in_use ≡ false) × (is_there old.state ≡ true) × (new ≡ old))
    ⊎ ((((fault ≡ OutOfMemory) ⊎ WitnessWasThere fault old) × (old.in_use ≡ false)
    × (is_there old.state ≡ false) × Stays old new)
    ⊎ (((fault ≡ WriteState) × MayMakeKey key old new)
    ⊎ (MakesKey key old new
    × ((IsWriteRefused fault × MayRefuse old public (write_cause fault) × (new.files ≡ old.files))
    ⊎ ((fault ≡ WriteOutput) × PublishesIn key public old new))))))

-- of a world in memory, this is why `keygen` fails once its options spell a key
abbrev pub FailsToMakeKeyInMemory : Type 0
FailsToMakeKeyInMemory = (key : KeyOfCode) (state public : Bytes) (before printed : List ℕ)
    (fault : Fault) (old new : Held) (earlier now : WorldCalls)
    → LogsKeygenFailed key state public before printed fault earlier now
    → Follows (Some old) earlier (Some new) now
    → FailsToMakeKey key public fault old new

-- what is kept of a key's trees is right after the key was made, where it was before
abbrev pub NewNodesAreRight : Type 0
NewNodesAreRight = (key : KeyOfCode) (old new : Held)
    → MakesKey key old new → KeepsRight old.nodes key → KeepsRight new.nodes key
