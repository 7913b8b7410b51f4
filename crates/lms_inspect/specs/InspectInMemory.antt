-- What `inspect` finds in a world in memory, by its calls, and that it changes nothing.
use Rattle.std.specs.Prelude.{ℕ, ◌≡◌, ◌⊎◌, List, ◌++◌, Option, Some, Ok, Err}
use Rattle.lms_blocks.specs.Writing.{AppendsFront}
use Rattle.lms_world.specs.Names.{Bytes}
use Rattle.lms_world.specs.Held.{Follows, Held, answer_in}
use Rattle.lms_world.specs.declared.fault.WorldFault.TheVariants.{Device}
use Rattle.lms_image.specs.declared.image.Image.{Image}
use Rattle.lms_commands.specs.InMemory.{IsUnreadable}
use Rattle.lms_commands.specs.Logs.{WorldCalls}
use Rattle.lms_commands.specs.declared.fault.Fault.{Fault}
use Rattle.lms_commands.specs.declared.fault.Fault.TheVariants.{BadWitness, OutOfMemory, ReadInput, ReadWitness}
use Rattle.lms_commands.specs.declared.fault.Fault.TheVariants.{WriteOutput}
use Rattle.lms_commands.specs.declared.status.Status.{Status}
use Rattle.lms_inspect.specs.Found.{IsFound, status_for}
use Rattle.lms_inspect.specs.InspectLogs.{IsNoWitness, LogsInspect, LogsInspectFailed, SaysWitness}
use Rattle.lms_inspect.specs.Texts.{found_text}
use Rattle.lms_inspect.specs.declared.found.Found.{Found}
use Rattle.lms_inspect.specs.declared.found.Found.TheVariants.{State}

-- the number is that of the witness that is held, of a state that was found
abbrev pub IsWitnessed : Found → Option ℕ → Held → Type 0
IsWitnessed (State image) witness held =
    (seen : Option (List ℕ)) × (held.witness ≡ Ok seen) × SaysWitness image.key.i seen witness
IsWitnessed found witness held = Unit {0}

-- a file holds bytes that are this
pub record Finds (file : Bytes) (held : Held) : Type 0 where
  pub bytes : List ℕ
  pub found : Found
  pub witness : Option ℕ
  pub given : answer_in held.files file ≡ Ok bytes
  pub is : IsFound found bytes
  pub witnessed : IsWitnessed found witness held

-- of a world in memory, `inspect` prints what its file is, and changes nothing
abbrev pub InspectsInMemory : Type 0
InspectsInMemory = (file : Bytes) (end : Status) (before printed : List ℕ) (old new : Held)
    (earlier now : WorldCalls)
    → LogsInspect file end before printed earlier now
    → Follows (Some old) earlier (Some new) now
    → (finds : Finds file old) × (end ≡ status_for finds.found)
    × (printed ≡ before ++ found_text finds.found finds.bytes finds.witness) × (new ≡ old)

-- a file holds this state image
abbrev pub HoldsState : Bytes → Image → Held → Type 0
HoldsState file image held = (bytes : List ℕ) × (answer_in held.files file ≡ Ok bytes) × IsFound (State image) bytes

-- the witness of a state can't be read, or is none of its key
abbrev pub IsUnwitnessed : Fault → Image → Held → Type 0
IsUnwitnessed fault image held =
    ((fault ≡ ReadWitness) × (held.witness ≡ Err Device))
    ⊎ ((fault ≡ BadWitness)
    × ((text : List ℕ) × (held.witness ≡ Ok (Some text)) × IsNoWitness image.key.i text))

-- why nothing is printed, or a beginning at most
abbrev pub FailsToInspect : Bytes → Fault → List ℕ → List ℕ → Held → Type 0
FailsToInspect file fault before printed held =
    (fault ≡ OutOfMemory)
    ⊎ (((fault ≡ ReadInput) × IsUnreadable file held)
    ⊎ (((image : Image) × HoldsState file image held × IsUnwitnessed fault image held)
    ⊎ ((fault ≡ WriteOutput) × ((finds : Finds file held)
    × AppendsFront (Some before) (Some printed) (found_text finds.found finds.bytes finds.witness)))))

-- of a world in memory, this is why `inspect` fails, and changes nothing
abbrev pub FailsToInspectInMemory : Type 0
FailsToInspectInMemory = (file : Bytes) (fault : Fault) (before printed : List ℕ) (old new : Held)
    (earlier now : WorldCalls)
    → LogsInspectFailed file fault before printed earlier now
    → Follows (Some old) earlier (Some new) now
    → FailsToInspect file fault before printed old × (new ≡ old)
