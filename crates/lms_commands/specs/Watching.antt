-- What a command does with its key's witness: another file, which says below which index all are
-- used.
use Rattle.std.specs.Prelude.{◌≡◌, ◌⊎◌, ◌+◌, ◌<◌, ◌≤◌, ◌^◌, ℕ, zero, suc, List, [], ◌∷◌, ◌++◌, Option, Some, None}
use Rattle.std.specs.Prelude.{Ok, Err, option_map}
use Rattle.lms_book.specs.States.{BookState}
use Rattle.lms_texts.specs.Witnesses.{witness_text}
use Rattle.lms_world.specs.Events.{WitnessDrafted, WitnessRead, WitnessWritten, Writing}
use Rattle.lms_world.specs.declared.fault.WorldFault.{WorldFault}
use Rattle.lms_world.specs.declared.fault.WorldFault.TheVariants as world
use Rattle.lms_commands.specs.Logs.{BurnsUnsigned, KeyState, LeavesState, LeavesUnsigned, LogsUnopened, OpensState}
use Rattle.lms_commands.specs.Logs.{StoresUse, WorldCalls}
use Rattle.lms_commands.specs.declared.fault.Fault.{Fault}
use Rattle.lms_commands.specs.declared.fault.Fault.TheVariants.{BadWitness, OutOfMemory, ReadWitness, StateOlder}
use Rattle.lms_commands.specs.declared.fault.Fault.TheVariants.{WriteWitness, WriteWitnessBurnt}
use Rattle.lms_commands.specs.declared.witness.Witness.{Witness}

-- the bytes of a witness that was found, if there is one
abbrev pub Watch : Type 0
Watch = Option (List ℕ)

-- those bytes of a witness as code has it, with its draft
abbrev pub watch_of : {D : Type 0} → Option (Witness D) → Watch
watch_of witness = option_map (λ it. it.text.items) witness

-- the calls by which it is read, and a draft of it made where there is one
abbrev pub watch_calls : Watch → WorldCalls
watch_calls None = WitnessRead (Ok None) ∷ []
watch_calls (Some text) = WitnessDrafted (Ok tt) ∷ WitnessRead (Ok (Some text)) ∷ []

-- it can't be read, at this fault
abbrev pub LogsUnseen : Fault → WorldCalls → WorldCalls → Type 0
LogsUnseen fault old new =
    ((fault ≡ ReadWitness) × (new ≡ WitnessRead (Err world.Device) ∷ old))
    ⊎ ((fault ≡ OutOfMemory) × (new ≡ WitnessRead (Err world.OutOfMemory) ∷ old))

-- no draft of it can be made, at this fault; there is no call where memory for its next bytes was refused
abbrev pub LogsUndrafted : Fault → WorldCalls → WorldCalls → Type 0
LogsUndrafted fault old new =
    ((fault ≡ WriteWitness) × (new ≡ WitnessDrafted (Err world.Device) ∷ old))
    ⊎ ((fault ≡ OutOfMemory) × ((new ≡ old) ⊎ (new ≡ WitnessDrafted (Err world.OutOfMemory) ∷ old)))

-- the bytes say that all indices below this number of the key of this identifier are used
pub record Says (text id : List ℕ) (counter : ℕ) : Type 0 where
  pub text_is : text ≡ witness_text id counter
  pub fits : counter < 2 ^ 64

-- a state of the key of this identifier that counts so many indices is not older than its witness, or has none
abbrev pub IsAdmitted : Watch → List ℕ → ℕ → Type 0
IsAdmitted None id index = Unit {0}
IsAdmitted (Some text) id index = (counter : ℕ) × Says text id counter × (counter ≤ index)

-- it is refused: the witness is none of its key, or says more
abbrev pub IsRefusedBy : Watch → List ℕ → ℕ → Fault → Type 0
IsRefusedBy None id index fault = ⊥
IsRefusedBy (Some text) id index fault =
    ((fault ≡ BadWitness) × ((counter : ℕ) → ¬ Says text id counter))
    ⊎ ((fault ≡ StateOlder) × ((counter : ℕ) × Says text id counter × (index < counter)))

-- the call by which the witness says that so many indices from this one on are used, too; there is none where there are
-- no such indices, or no witness
abbrev pub notes : ℕ → Watch → List ℕ → ℕ → Writing → WorldCalls
notes zero watch id start answer = []
notes (suc n) None id start answer = []
notes (suc n) (Some text) id start answer = WitnessWritten (witness_text id (start + suc n)) answer ∷ []

-- it does not say so for certain, and these indices sign nothing
abbrev pub FailsToNote : ℕ → Watch → List ℕ → ℕ → Fault → WorldCalls → WorldCalls → Type 0
FailsToNote zero watch id start fault old new = ⊥
FailsToNote (suc n) None id start fault old new = ⊥
FailsToNote (suc n) (Some text) id start fault old new =
    (fault ≡ WriteWitnessBurnt start (start + n))
    × ((new ≡ old)
    ⊎ ((cause : WorldFault) × (new ≡ notes (suc n) (Some text) id start (Err cause) ++ old)))

-- a witness that does not refuse this state, or none
pub record Admits (state : KeyState) : Type 0 where
  pub watch : Watch
  pub admitted : IsAdmitted watch state.key.i state.index

-- the calls up to where that witness is read and drafted
abbrev pub watched : {state : KeyState} → Admits state → WorldCalls → WorldCalls
watched by old = watch_calls by.watch ++ old

-- a state is opened that its witness does not refuse
abbrev pub OpensWatched : Watch → BookState → WorldCalls → WorldCalls → Type 0
OpensWatched watch book old new =
    IsAdmitted watch book.key.i book.base × OpensState book (watch_calls watch ++ old) new

-- it is not opened: its witness can't be read or drafted; or the state can't be opened; or it is, and
-- its witness refuses it, and nothing is written
abbrev pub LogsUnwatched : Fault → WorldCalls → WorldCalls → Type 0
LogsUnwatched fault old new =
    LogsUnseen fault old new
    ⊎ (((text : List ℕ) × LogsUndrafted fault (WitnessRead (Ok (Some text)) ∷ old) new)
    ⊎ (((watch : Watch) × LogsUnopened fault (watch_calls watch ++ old) new)
    ⊎ ((watch : Watch) × (state : KeyState) × IsRefusedBy watch state.key.i state.index fault
    × LeavesState state (watch_calls watch ++ old) new)))

-- a state is read that its witness does not refuse, and nothing is written
abbrev pub LeavesWatched : KeyState → WorldCalls → WorldCalls → Type 0
LeavesWatched state old new = (by : Admits state) × LeavesState state (watched by old) new

-- the image that counts n indices more is stored for certain, and then the witness, if there is one, is written for
-- certain
abbrev pub UsesWatched : ℕ → KeyState → WorldCalls → WorldCalls → Type 0
UsesWatched n state old new =
    (by : Admits state) × (last : WorldCalls) × StoresUse n state (watched by old) last
    × (new ≡ notes n by.watch state.key.i state.index (Ok tt) ++ last)

-- the use of n indices is stored for certain, and said by the witness, if there is one; of none, nothing is written
abbrev pub UsesAll : ℕ → KeyState → WorldCalls → WorldCalls → Type 0
UsesAll zero state old new = LeavesWatched state old new
UsesAll (suc n) state old new = UsesWatched (suc n) state old new

-- a state is read that its witness does not refuse, and n of its indices are not used: there are too few, or memory
-- runs out
abbrev pub SparesWatched : ℕ → Fault → KeyState → WorldCalls → WorldCalls → Type 0
SparesWatched n fault state old new =
    (by : Admits state) × LeavesUnsigned n fault state (watched by old) new

-- such a state is read, and n of its indices sign nothing: their use is not stored for certain; or it is, and then
-- memory runs out, or the witness does not say so for certain
abbrev pub BurnsWatched : ℕ → Fault → KeyState → WorldCalls → WorldCalls → Type 0
BurnsWatched n fault state old new =
    (by : Admits state)
    × (BurnsUnsigned n fault state (watched by old) new
    ⊎ ((last : WorldCalls) × StoresUse n state (watched by old) last
    × FailsToNote n by.watch state.key.i state.index fault last new))

-- such a state is read, and n of its indices sign nothing
abbrev pub UnsignedWatched : ℕ → Fault → KeyState → WorldCalls → WorldCalls → Type 0
UnsignedWatched n fault state old new =
    SparesWatched n fault state old new ⊎ BurnsWatched n fault state old new
