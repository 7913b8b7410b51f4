-- What a command finds in a world in memory and leaves there.
use Rattle.std.specs.Prelude.{ℕ, zero, suc, Result, None, ◌≡◌, ◌≢◌, ◌⊎◌, ◌+◌, ◌-◌, ◌<◌, ◌≤◌, List, true, Option, Some}
use Rattle.std.specs.Prelude.{Ok, Err}
use Rattle.lms_spec.specs.Hss.{capacity_of}
use Rattle.lms_hss.specs.Keys.{hss_key_of}
use Rattle.lms_hss.specs.declared.key.HssKey.{HssKey as KeyOfCode}
use Rattle.lms_image.specs.Image.{fault_of, HasImage, IsImage}
use Rattle.lms_image.specs.declared.fault.ImageFault.{ImageFault}
use Rattle.lms_book.specs.Stops.{Texts, IsAmong, IsLeftBy, only}
use Rattle.lms_kept.specs.Ways.{AreGenuine, IsWay, Way, nodes_text}
use Rattle.lms_world.specs.Names.{Bytes}
use Rattle.lms_world.specs.Held.{Answers, Held, answer_in}
use Rattle.lms_world.specs.declared.fault.WorldFault.{WorldFault}
use Rattle.lms_world.specs.declared.fault.WorldFault.TheVariants.{Device}
use Rattle.lms_texts.specs.Witnesses.{witness_text}
use Rattle.lms_commands.specs.Logs.{KeyState, image_using}
use Rattle.lms_commands.specs.Watching.{IsAdmitted, IsRefusedBy, Watch}
use Rattle.lms_commands.specs.declared.fault.Fault.{Fault}
use Rattle.lms_commands.specs.declared.fault.Fault.TheVariants.{BadState, Exhausted, OutOfMemory, OutOfMemoryBurnt}
use Rattle.lms_commands.specs.declared.fault.Fault.TheVariants.{ReadState, ReadWitness, StateInUse, WriteStateBurnt}
use Rattle.lms_commands.specs.declared.fault.Fault.TheVariants.{WriteWitnessBurnt}

-- nothing is changed but whether a read of the state may fail
pub record Stays (old new : Held) : Type 0 where
  pub files : new.files ≡ old.files
  pub state : new.state ≡ old.state
  pub nodes : new.nodes ≡ old.nodes
  pub in_use : new.in_use ≡ old.in_use
  pub nodes_fault : new.nodes_fault ≡ old.nodes_fault
  pub witness : new.witness ≡ old.witness

-- what is held of the witness
abbrev pub WitnessHeld : Type 0
WitnessHeld = Result (Option (List ℕ)) WorldFault

-- it can be read, and does not refuse this state
abbrev pub IsWatched : KeyState → WitnessHeld → Type 0
IsWatched state held = (watch : Watch) × (held ≡ Ok watch) × IsAdmitted watch state.key.i state.index

-- what is held once the witness, if there is one, says that n indices more of a state are used; where n is 0, it stays
abbrev pub noted : ℕ → KeyState → WitnessHeld → WitnessHeld
noted zero state held = held
noted (suc n) state (Ok (Some text)) = Ok (Some (witness_text state.key.i (state.index + suc n)))
noted (suc n) state (Ok None) = Ok None
noted (suc n) state (Err fault) = Err fault

-- nothing is changed but files
abbrev pub OnlyFiles : Held → Held → Type 0
OnlyFiles old new = new ≡ record old { files = new.files }

-- a read of the name fails at the device, as where there is no file
abbrev pub IsUnreadable : Bytes → Held → Type 0
IsUnreadable name held = answer_in held.files name ≡ Err Device

-- only the file of this name may have changed
abbrev pub SameFilesBut : Bytes → Answers → Answers → Type 0
SameFilesBut written old new =
    (name : Bytes) → name ≢ written → answer_in new name ≡ answer_in old name

-- the file of this name holds these bytes, and no other file is changed
pub record WritesFile (name : Bytes) (bytes : List ℕ) (old new : Answers) : Type 0 where
  pub holds : answer_in new name ≡ Ok bytes
  pub others : SameFilesBut name old new

-- what is kept of nodes is what was, or the bytes of these trees
abbrev pub KeepsNodes : Option Way → Option (List ℕ) → Option (List ℕ) → Type 0
KeepsNodes trees old new =
    (new ≡ old) ⊎ ((way : Way) × (trees ≡ Some way) × (new ≡ Some (nodes_text way)))

-- whatever is kept of a key's trees is right
abbrev pub KeepsRight : Option (List ℕ) → KeyOfCode → Type 0
KeepsRight nodes key =
    (way : Way) → IsWay way → way.key ≡ key → nodes ≡ Some (nodes_text way) → AreGenuine way

-- the state was an image of this key and these numbers
pub record WasState (state : KeyState) (held : Texts) : Type 0 where
  pub text : List ℕ
  pub there : IsAmong held text
  pub counted : HasImage state.key state.index state.openings state.burnt
  pub image : IsImage text state.key state.index state.openings state.burnt

-- the state was an image of some key and numbers, and is left as it was, as all else is
pub record FindsState (old new : Held) : Type 0 where
  pub state : KeyState
  pub was : WasState state old.state
  pub stays : Stays old new

-- the state was no image, by this fault
abbrev pub WasBad : Texts → ImageFault → Type 0
WasBad held fault = (text : List ℕ) × IsAmong held text × (fault_of text ≡ Some fault)

-- why a state is not locked
abbrev pub FailsToLock : Fault → Held → Held → Type 0
FailsToLock fault old new =
    ((fault ≡ OutOfMemory) ⊎ ((fault ≡ StateInUse) × (old.in_use ≡ true))) × (new ≡ old)

-- why a state is not opened
abbrev pub FailsToOpen : Fault → Held → Held → Type 0
FailsToOpen fault old new =
    ((fault ≡ OutOfMemory)
    ⊎ (((fault ≡ ReadState) × (old.may_fail ≡ true))
    ⊎ ((bad : ImageFault) × (fault ≡ BadState bad) × WasBad old.state bad)))
    × Stays old new

-- why it is not opened with its witness: memory ran out; or that can't be read; or it can, and the state
-- can't be opened, or is refused, since the witness is none of its key, or says more
abbrev pub FailsToWatch : Fault → Held → Held → Type 0
FailsToWatch fault old new =
    ((fault ≡ OutOfMemory) × Stays old new)
    ⊎ (((fault ≡ ReadWitness) × (old.witness ≡ Err Device) × Stays old new)
    ⊎ (((watch : Watch) × (old.witness ≡ Ok watch) × FailsToOpen fault old new)
    ⊎ ((found : FindsState old new) × (text : List ℕ) × (old.witness ≡ Ok (Some text))
    × IsRefusedBy (Some text) found.state.key.i found.state.index fault)))

-- the state counts n indices more, in one image; of none, nothing is written
abbrev pub CountsUses : ℕ → KeyState → Texts → Texts → Type 0
CountsUses zero state old new = new ≡ old
CountsUses (suc n) state old new = new ≡ only (image_using (suc n) state)

-- of a state that its witness does not refuse fewer than n indices are left, namely `left`; all stays as it was
pub record LacksIndices (n left : ℕ) (old new : Held) : Type 0 where
  pub finds : FindsState old new
  pub watched : IsWatched finds.state old.witness
  pub few : capacity_of (hss_key_of finds.state.key) < finds.state.index + n
  pub left_is : left ≡ capacity_of (hss_key_of finds.state.key) - finds.state.index

-- n indices of the state, from this one on, may be stored as used, or may not: its store failed
pub record BurnsIndices (n start : ℕ) (old new : Held) : Type 0 where
  pub state : KeyState
  pub was : WasState state old.state
  pub watched : IsWatched state old.witness
  pub start_is : start ≡ state.index
  pub within : state.index + n ≤ capacity_of (hss_key_of state.key)
  pub files : new.files ≡ old.files
  pub nodes : new.nodes ≡ old.nodes
  pub witness : new.witness ≡ old.witness
  pub left : (new.state ≡ old.state) ⊎ IsLeftBy (image_using n state) old.state new.state

-- n indices of the state are stored as used, and the witness stays as it was
pub record UsesIndices (n : ℕ) (old new : Held) : Type 0 where
  pub state : KeyState
  pub was : WasState state old.state
  pub watched : IsWatched state old.witness
  pub within : state.index + n ≤ capacity_of (hss_key_of state.key)
  pub files : new.files ≡ old.files
  pub nodes : new.nodes ≡ old.nodes
  pub witness : new.witness ≡ old.witness
  pub stored : new.state ≡ only (image_using n state)

-- why n indices of a state that is opened sign nothing, and what is left
abbrev pub SignsNone : ℕ → Fault → Held → Held → Type 0
SignsNone n fault old new =
    ((fault ≡ OutOfMemory) × ((found : FindsState old new) × IsWatched found.state old.witness))
    ⊎ (((left : ℕ) × (fault ≡ Exhausted left) × LacksIndices n left old new)
    ⊎ (((start : ℕ) × (fault ≡ WriteStateBurnt start n) × BurnsIndices n start old new)
    ⊎ (((fault ≡ OutOfMemoryBurnt n) × UsesIndices n old new)
    ⊎ ((uses : UsesIndices n old new) × ((text : List ℕ) × (old.witness ≡ Ok (Some text)))
    × (fault ≡ WriteWitnessBurnt uses.state.index (uses.state.index + n - 1))))))
