-- The calls that `witness` makes on its world: it stores nothing, and makes a witness at most.
use Rattle.std.specs.Prelude.{ℕ, ◌≡◌, ◌≢◌, ◌⊎◌, ◌<◌, ◌^◌, List, [], ◌∷◌, ◌++◌, Some, None, Ok, Err, codes, decimal}
use Rattle.lms_blocks.specs.Writing.{AppendsFront}
use Rattle.lms_texts.specs.Witnesses.{witness_text}
use Rattle.lms_world.specs.Names.{Bytes}
use Rattle.lms_world.specs.Events.{Acquired, Locked, Printing, Unlocked, WitnessMade, WitnessRead, after}
use Rattle.lms_world.specs.declared.fault.WorldFault.{WorldFault}
use Rattle.lms_world.specs.declared.fault.WorldFault.TheVariants as world
use Rattle.lms_commands.specs.Logs.{IsLockRefused, KeyState, LeavesState, LogsUnopened, WorldCalls, lock_answer}
use Rattle.lms_commands.specs.Watching.{LogsUnseen}
use Rattle.lms_commands.specs.declared.fault.Fault.{Fault}
use Rattle.lms_commands.specs.declared.fault.Fault.TheVariants.{BadCounter, OtherCounter, OutOfMemory, WitnessExists}
use Rattle.lms_commands.specs.declared.fault.Fault.TheVariants.{WriteOutput, WriteWitness}

-- the text is this number in decimal, which is below 2^64
abbrev pub IsDecimal : Bytes → ℕ → Type 0
IsDecimal text number = (text ≡ decimal number) × (number < 2 ^ 64)

-- there is a witness, or it can't be read
abbrev pub LogsWitnessThere : Fault → WorldCalls → WorldCalls → Type 0
LogsWitnessThere fault old new =
    LogsUnseen fault old new
    ⊎ ((fault ≡ WitnessExists)
    × ((text : List ℕ) × (new ≡ after (WitnessRead (Ok (Some text)) ∷ []) old)))

-- the line of a witness that says what a state counts
abbrev pub witness_line : KeyState → List ℕ
witness_line read = witness_text read.key.i read.index

-- that line, and one that says where the witness is
abbrev pub made_text : KeyState → Bytes → List ℕ
made_text read made = witness_line read ++ (made ++ codes "\n")

-- there is no witness, and the state is read
abbrev pub LeavesUnwatched : KeyState → WorldCalls → WorldCalls → Type 0
LeavesUnwatched read old new = LeavesState read (after (WitnessRead (Ok None) ∷ []) old) new

-- then a witness of it is made, and an output begins to be printed to, where this was printed before
pub record MakesToPrint (read : KeyState) (place made : Bytes) (before : List ℕ)
    (old new : WorldCalls) : Type 0 where
  pub until_read : WorldCalls
  pub reads : LeavesUnwatched read old until_read
  pub prints : new
      ≡ after (WitnessMade place (witness_line read) (Ok made) ∷ Printing before ∷ []) until_read

-- all calls of `witness`, from its lock on until that is handed back, where the text is that of
-- what the state counts
abbrev pub LogsWitness : Bytes → Bytes → Bytes → List ℕ → List ℕ → WorldCalls → WorldCalls → Type 0
LogsWitness state place counter before printed old new =
    (read : KeyState) × (made : Bytes) × (last : WorldCalls) × IsDecimal counter read.index
    × MakesToPrint read place made before (after (Locked state Acquired ∷ []) old) last
    × (printed ≡ before ++ made_text read made) × (new ≡ after (Unlocked ∷ []) last)

-- the fault that a witness which is not made is
abbrev pub of_making : WorldFault → Fault
of_making world.Device = WriteWitness
of_making world.OutOfMemory = OutOfMemory

-- why a state that was read gets no witness: memory is refused for its line, or it can't be made
abbrev pub FailsToMake : Bytes → KeyState → Fault → WorldCalls → WorldCalls → Type 0
FailsToMake place read fault old new =
    ((fault ≡ OutOfMemory) × (new ≡ old))
    ⊎ ((cause : WorldFault) × (fault ≡ of_making cause)
    × (new ≡ after (WitnessMade place (witness_line read) (Err cause) ∷ []) old))

-- why a state that was read, and of which this is to be the counter, gets none
abbrev pub RefusesWitness : ℕ → Bytes → KeyState → Fault → WorldCalls → WorldCalls → Type 0
RefusesWitness counter place read fault old new =
    ((fault ≡ OtherCounter read.index) × (read.index ≢ counter) × (new ≡ old))
    ⊎ ((read.index ≡ counter) × FailsToMake place read fault old new)

-- why none is made under a lock: there is one; or the state is not opened; or it gets none; or it
-- does, and a beginning at most of what is said of it is printed
abbrev pub LogsUnwitnessed : ℕ → Bytes → List ℕ → List ℕ → Fault → WorldCalls → WorldCalls → Type 0
LogsUnwitnessed counter place before printed fault old new =
    ((printed ≡ before)
    × (LogsWitnessThere fault old new
    ⊎ (LogsUnopened fault (after (WitnessRead (Ok None) ∷ []) old) new
    ⊎ ((read : KeyState) × (last : WorldCalls) × LeavesUnwatched read old last
    × RefusesWitness counter place read fault last new))))
    ⊎ ((fault ≡ WriteOutput)
    × ((read : KeyState) × (made : Bytes) × (read.index ≡ counter)
    × MakesToPrint read place made before old new
    × AppendsFront (Some before) (Some printed) (made_text read made)))

-- all calls of `witness`, where it fails: at a text that is no number's it makes none
abbrev pub LogsWitnessFailed : Bytes → Bytes → Bytes → List ℕ → List ℕ → Fault → WorldCalls
    → WorldCalls → Type 0
LogsWitnessFailed state place counter before printed fault old new =
    ((fault ≡ BadCounter) × ((number : ℕ) → ¬ IsDecimal counter number) × (new ≡ old)
    × (printed ≡ before))
    ⊎ ((number : ℕ) × IsDecimal counter number
    × ((IsLockRefused fault × (new ≡ after (Locked state (lock_answer fault) ∷ []) old)
    × (printed ≡ before))
    ⊎ ((last : WorldCalls)
    × LogsUnwitnessed number place before printed fault (after (Locked state Acquired ∷ []) old) last
    × (new ≡ after (Unlocked ∷ []) last))))
