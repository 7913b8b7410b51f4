-- The calls that `inspect` makes on its world: it locks, stores and writes nothing.
use Rattle.std.specs.Prelude.{ℕ, ◌≡◌, ◌⊎◌, ◌<◌, ◌^◌, List, ◌∷◌, ◌++◌, Option, Some, None, Ok, Err, IfSome, option_map, Vec}
use Rattle.std.specs.Global.{Global}
use Rattle.lms_blocks.specs.Writing.{AppendsFront}
use Rattle.lms_texts.specs.Witnesses.{witness_text}
use Rattle.lms_world.specs.Names.{Bytes}
use Rattle.lms_world.specs.Events.{Opened, Printing, WitnessRead}
use Rattle.lms_commands.specs.Logs.{IsReadRefused, WorldCalls, read_cause}
use Rattle.lms_commands.specs.Watching.{LogsUnseen}
use Rattle.lms_commands.specs.declared.fault.Fault.{Fault}
use Rattle.lms_commands.specs.declared.fault.Fault.TheVariants.{BadWitness, OutOfMemory, WriteOutput}
use Rattle.lms_commands.specs.declared.status.Status.{Status}
use Rattle.lms_inspect.specs.Found.{IsFound, status_for}
use Rattle.lms_inspect.specs.Texts.{found_text}
use Rattle.lms_inspect.specs.declared.found.Found.{Found}
use Rattle.lms_inspect.specs.declared.found.Found.TheVariants.{State}

-- the bytes of a witness, if there is one, say that all indices of a key below a number are used
abbrev pub SaysWitness : List ℕ → Option (List ℕ) → Option ℕ → Type 0
SaysWitness id None witness = witness ≡ None
SaysWitness id (Some text) witness = (counter : ℕ) × (witness ≡ Some counter) × (text ≡ witness_text id counter)

-- the same of bytes that code holds
abbrev pub WitnessOf : List ℕ → Option (Vec ℕ Global) → Option ℕ → Type 0
WitnessOf id text witness = SaysWitness id (option_map (λ it. it.items) text) witness

-- the bytes of a witness are none of a key
abbrev pub IsNoWitness : List ℕ → List ℕ → Type 0
IsNoWitness id text = (counter : ℕ) → counter < 2 ^ 64 → text ≡ witness_text id counter → ⊥

-- and so the fault says
abbrev pub WitnessOfNone : List ℕ → Option (Vec ℕ Global) → Fault → Type 0
WitnessOfNone id None fault = ⊥
WitnessOfNone id (Some text) fault = (fault ≡ BadWitness) × IsNoWitness id text.items

-- of a state the witness is looked at, and says so; of all else nothing is
abbrev pub LooksAtWitness : Found → Option ℕ → WorldCalls → WorldCalls → Type 0
LooksAtWitness (State image) witness old new =
    (seen : Option (List ℕ)) × (new ≡ WitnessRead (Ok seen) ∷ old) × SaysWitness image.key.i seen witness
LooksAtWitness found witness old new = (new ≡ old) × (witness ≡ None)

-- the witness of a state can't be read, or is none of its key
abbrev pub LooksInVain : Found → Fault → WorldCalls → WorldCalls → Type 0
LooksInVain (State image) fault old new =
    LogsUnseen fault old new
    ⊎ ((fault ≡ BadWitness) × ((text : List ℕ) × (new ≡ WitnessRead (Ok (Some text)) ∷ old)
    × IsNoWitness image.key.i text))
LooksInVain found fault old new = ⊥

-- these are the bytes that a file holds, where that is known
abbrev pub IsHeld : Option (List ℕ) → List ℕ → Type 0
IsHeld held bytes = IfSome held (λ it. bytes ≡ it)

-- a file is read, and what it is is found, with its witness
pub record Inspects (file : Bytes) (old new : WorldCalls) : Type 0 where
  pub held : Option (List ℕ)
  pub bytes : List ℕ
  pub is_held : IsHeld held bytes
  pub found : Found
  pub witness : Option ℕ
  pub is : IsFound found bytes
  pub looks : LooksAtWitness found witness (Opened file (Ok held) ∷ old) new

-- what is printed of it
abbrev pub inspected_text : {file : Bytes} {old new : WorldCalls} → Inspects file old new → List ℕ
inspected_text inspects = found_text inspects.found inspects.bytes inspects.witness

-- all calls of `inspect`: what the file is is printed
abbrev pub LogsInspect : Bytes → Status → List ℕ → List ℕ → WorldCalls → WorldCalls → Type 0
LogsInspect file end before printed old new =
    (last : WorldCalls) × (inspects : Inspects file old last)
    × (end ≡ status_for inspects.found) × (printed ≡ before ++ inspected_text inspects)
    × (new ≡ Printing before ∷ last)

-- why nothing is printed of a file that was opened: it can't be read to its end; memory is refused, for
-- its bytes, its parts or what is to be printed; or its witness is looked at in vain
abbrev pub LogsUnsaid : Bytes → Fault → WorldCalls → WorldCalls → Type 0
LogsUnsaid file fault old new =
    (IsReadRefused fault × (new ≡ Opened file (Ok None) ∷ old))
    ⊎ (((fault ≡ OutOfMemory) × ((held : Option (List ℕ)) × (new ≡ Opened file (Ok held) ∷ old)))
    ⊎ (((fault ≡ OutOfMemory) × Inspects file old new)
    ⊎ ((held : Option (List ℕ)) × (bytes : List ℕ) × IsHeld held bytes × (found : Found) × IsFound found bytes
    × LooksInVain found fault (Opened file (Ok held) ∷ old) new)))

-- all calls of `inspect` where it fails
abbrev pub LogsInspectFailed : Bytes → Fault → List ℕ → List ℕ → WorldCalls → WorldCalls → Type 0
LogsInspectFailed file fault before printed old new =
    ((printed ≡ before)
    × ((IsReadRefused fault × (new ≡ Opened file (Err (read_cause fault)) ∷ old))
    ⊎ LogsUnsaid file fault old new))
    ⊎ ((fault ≡ WriteOutput)
    × ((last : WorldCalls) × (inspects : Inspects file old last) × (new ≡ Printing before ∷ last)
    × AppendsFront (Some before) (Some printed) (inspected_text inspects)))
