-- The calls that a command makes on its world, one after another, the newest first.
use Rattle.std.specs.Prelude.{◌≡◌, ◌⊎◌, ◌+◌, ◌-◌, ◌<◌, ◌≤◌, ℕ, List, [], ◌∷◌, ◌++◌, true, Option, Some, None, Result}
use Rattle.std.specs.Prelude.{Ok, Err}
use Rattle.lms_spec.specs.Hss.{capacity_of}
use Rattle.lms_hss.specs.Keys.{hss_key_of}
use Rattle.lms_hss.specs.declared.key.HssKey.{HssKey as KeyOfCode}
use Rattle.lms_image.specs.Image.{fault_of, image_of, HasImage, IsImage}
use Rattle.lms_image.specs.declared.fault.ImageFault.{ImageFault}
use Rattle.lms_image.specs.declared.image.Image.{Image}
use Rattle.lms_book.specs.States.{BookState}
use Rattle.lms_book.specs.Stops.{StoreView, FailsToWrite, MayLeave, after_failure, after_write, having_given}
use Rattle.lms_kept.specs.Ways.{Way, nodes_text}
use Rattle.lms_blocks.specs.Writing.{AppendsFront}
use Rattle.lms_world.specs.Events.{Event, Taken, Taking, PutBack, NodesWritten}
use Rattle.lms_world.specs.Events.{Locking, Acquired, NotAvailable, NoMemory}
use Rattle.lms_world.specs.Events.{Printing, Writing, Written, after}
use Rattle.lms_world.specs.Names.{Bytes}
use Rattle.lms_world.specs.declared.fault.WorldFault.{WorldFault}
use Rattle.lms_world.specs.declared.fault.WorldFault.TheVariants.{Device}
use Rattle.lms_world.specs.declared.fault.WorldFault.TheVariants as world
use Rattle.lms_commands.specs.declared.fault.Fault.{Fault}
use Rattle.lms_commands.specs.declared.fault.Fault.TheVariants.{ReadState, BadState, WriteStateBurnt, Exhausted}
use Rattle.lms_commands.specs.declared.fault.Fault.TheVariants.{StateInUse, ReadInput, WriteOutput, OutOfMemory}
use Rattle.lms_commands.specs.declared.fault.Fault.TheVariants.{OutOfMemoryBurnt}

-- the calls up to some moment
abbrev pub WorldCalls : Type 0
WorldCalls = List Event

-- a key, and what its state counts
pub record KeyState : Type 0 where
  pub key : KeyOfCode
  pub index : ℕ
  pub openings : ℕ
  pub burnt : ℕ

-- what a book read
abbrev pub state_of : BookState → KeyState
state_of book =
    record { key = book.key; index = book.base; openings = book.openings; burnt = book.burnt }

-- what an image says
abbrev pub state_in : Image → KeyState
state_in image =
    record {
      key = image.key;
      index = image.counter;
      openings = image.openings;
      burnt = image.burnt;
    }

-- the image that counts n indices more as used, and their opening
abbrev pub image_using : ℕ → KeyState → List ℕ
image_using n state = image_of state.key (state.index + n) (state.openings + 1) state.burnt

-- a store that was taken out gave bytes, the image of this state; `read` is what contracts see of it then
pub record ReadsState (state : KeyState) (taken read : StoreView) : Type 0 where
  pub text : List ℕ
  pub left : MayLeave taken text
  pub counted : HasImage state.key state.index state.openings state.burnt
  pub image : IsImage text state.key state.index state.openings state.burnt
  pub given : read ≡ having_given text taken

-- a store is taken out and gives this state; it is not put back yet
abbrev pub OpensState : BookState → WorldCalls → WorldCalls → Type 0
OpensState book old new =
    (taken : Taking) × ReadsState (state_of book) taken.view book.store
    × (new ≡ after (Taken (Some taken) ∷ []) old)

-- a store is taken out, and put back as what is left of it
abbrev pub PutsBack : Taking → StoreView → WorldCalls → WorldCalls → Type 0
PutsBack taken left old new = new ≡ after (Taken (Some taken) ∷ PutBack left ∷ []) old

-- a state is not opened: its store fails, its bytes are no image, or memory runs out; nothing is
-- written
abbrev pub LogsUnopened : Fault → WorldCalls → WorldCalls → Type 0
LogsUnopened fault old new =
    ((fault ≡ OutOfMemory) × (new ≡ after (Taken None ∷ []) old))
    ⊎ ((taken : Taking)
    × (((fault ≡ OutOfMemory) × PutsBack taken taken.view old new)
    ⊎ (((fault ≡ ReadState) × (taken.may_fail ≡ true)
    × PutsBack taken (after_failure taken.view) old new)
    ⊎ ((bad : ImageFault) × (text : List ℕ) × (fault ≡ BadState bad)
    × MayLeave taken.view text × (fault_of text ≡ Some bad)
    × PutsBack taken (having_given text taken.view) old new))))

-- a state is read, and nothing is written
abbrev pub LeavesState : KeyState → WorldCalls → WorldCalls → Type 0
LeavesState state old new =
    (taken : Taking) × (read : StoreView) × ReadsState state taken.view read
    × PutsBack taken read old new

-- a state is read, and the image that counts n indices more is stored for certain: nothing else is
-- written
abbrev pub StoresUse : ℕ → KeyState → WorldCalls → WorldCalls → Type 0
StoresUse n state old new =
    (taken : Taking) × (read : StoreView) × ReadsState state taken.view read
    × (state.index + n ≤ capacity_of (hss_key_of state.key))
    × PutsBack taken (after_write (image_using n state) read) old new

-- the same, where it was not stored for certain
abbrev pub TriesUse : ℕ → KeyState → WorldCalls → WorldCalls → Type 0
TriesUse n state old new =
    (taken : Taking) × (read left : StoreView) × ReadsState state taken.view read
    × (state.index + n ≤ capacity_of (hss_key_of state.key))
    × FailsToWrite (image_using n state) read left
    × PutsBack taken left old new

-- the image that counts all indices below this one as used, and their opening
abbrev pub image_below : ℕ → KeyState → List ℕ
image_below end state = image_of state.key end (state.openings + 1) state.burnt

-- how many indices are counted as used once images were stored that count up to these ends, the last first
abbrev pub used_after : KeyState → List ℕ → ℕ
used_after state [] = state.index
used_after state (end ∷ earlier) = end

-- such images are stored one after another, each for certain, and each counts more than the one before
abbrev pub StoresUpTo : KeyState → List ℕ → StoreView → StoreView → Type 0
StoresUpTo state [] read left = left ≡ read
StoresUpTo state (end ∷ earlier) read left =
    (before : StoreView) × StoresUpTo state earlier read before × (used_after state earlier < end)
    × (left ≡ after_write (image_below end state) before)

-- so images are stored, perhaps none, and none that counts beyond this end; and then perhaps one more, not for certain
abbrev pub StoresSome : ℕ → KeyState → StoreView → StoreView → Type 0
StoresSome end state read left =
    (ends : List ℕ) × (mid : StoreView) × (used_after state ends ≤ end) × StoresUpTo state ends read mid
    × ((left ≡ mid)
    ⊎ ((at : ℕ) × (used_after state ends < at) × (at ≤ end) × FailsToWrite (image_below at state) mid left))

-- a state is read, and n of its indices are not used: there are too few, or memory runs out
abbrev pub LeavesUnsigned : ℕ → Fault → KeyState → WorldCalls → WorldCalls → Type 0
LeavesUnsigned n fault state old new =
    ((fault ≡ Exhausted (capacity_of (hss_key_of state.key) - state.index))
    × (capacity_of (hss_key_of state.key) < state.index + n) × LeavesState state old new)
    ⊎ ((fault ≡ OutOfMemory) × LeavesState state old new)

-- a state is read, and the use of n of its indices is stored, for certain or not, and they sign nothing
abbrev pub BurnsUnsigned : ℕ → Fault → KeyState → WorldCalls → WorldCalls → Type 0
BurnsUnsigned n fault state old new =
    ((fault ≡ WriteStateBurnt state.index n) × TriesUse n state old new)
    ⊎ ((fault ≡ OutOfMemoryBurnt n) × StoresUse n state old new)

-- a state is read, and n of its indices sign nothing
abbrev pub LogsUnsigned : ℕ → Fault → KeyState → WorldCalls → WorldCalls → Type 0
LogsUnsigned n fault state old new =
    LeavesUnsigned n fault state old new ⊎ BurnsUnsigned n fault state old new

-- the bytes of these trees are written beside the state, which is done or fails; or no call is made, since memory for
-- the bytes was refused or there are no trees
abbrev pub LogsKeeping : Option Way → WorldCalls → WorldCalls → Type 0
LogsKeeping trees old new =
    (new ≡ old)
    ⊎ ((way : Way) × (answer : Writing) × (trees ≡ Some way)
    × (new ≡ after (NodesWritten (nodes_text way) answer ∷ []) old))

-- what the world answered to a lock, a read or a write that failed by this fault
abbrev pub lock_answer : Fault → Locking
lock_answer StateInUse = NotAvailable
lock_answer fault = NoMemory

abbrev pub read_cause : Fault → WorldFault
read_cause ReadInput = Device
read_cause fault = world.OutOfMemory

abbrev pub write_cause : Fault → WorldFault
write_cause WriteOutput = Device
write_cause fault = world.OutOfMemory

-- what a lock, a call that reads, or one that writes, came to in the world
abbrev pub locked_so : {T : Type 0} → Result T Fault → Locking
locked_so (Ok lock) = Acquired
locked_so (Err fault) = lock_answer fault

abbrev pub caused : {T : Type 0} → Result T Fault → Result T WorldFault
caused (Ok given) = Ok given
caused (Err fault) = Err (read_cause fault)

abbrev pub written_so : {T : Type 0} → Result T Fault → Writing
written_so (Ok done) = Ok tt
written_so (Err fault) = Err (write_cause fault)

-- the fault comes where a lock is not acquired
abbrev pub IsLockRefused : Fault → Type 0
IsLockRefused fault = (fault ≡ StateInUse) ⊎ (fault ≡ OutOfMemory)

-- the fault comes where a file is not read
abbrev pub IsReadRefused : Fault → Type 0
IsReadRefused fault = (fault ≡ ReadInput) ⊎ (fault ≡ OutOfMemory)

-- the fault comes where a file is not written
abbrev pub IsWriteRefused : Fault → Type 0
IsWriteRefused fault = (fault ≡ WriteOutput) ⊎ (fault ≡ OutOfMemory)

-- these bytes are written to the file of this name, and then this line is printed, after what was printed before
abbrev pub Publishes : Bytes → List ℕ → List ℕ → List ℕ → List ℕ → WorldCalls → WorldCalls → Type 0
Publishes name bytes line before printed old new =
    (new ≡ after (Written name bytes (Ok tt) ∷ Printing before ∷ []) old)
    × (printed ≡ before ++ line)

-- at this fault these bytes are not written to the file and nothing is printed; or they are, and of the line a
-- beginning at most is printed
abbrev pub FailsToPublish : Bytes → List ℕ → List ℕ → List ℕ → List ℕ → Fault → WorldCalls
    → WorldCalls → Type 0
FailsToPublish name bytes line before printed fault old new =
    (IsWriteRefused fault × (new ≡ after (Written name bytes (Err (write_cause fault)) ∷ []) old)
    × (printed ≡ before))
    ⊎ ((fault ≡ WriteOutput) × (new ≡ after (Written name bytes (Ok tt) ∷ Printing before ∷ []) old)
    × AppendsFront (Some before) (Some printed) line)
