-- What `witness` leaves in a world in memory, by its calls.
use Rattle.std.specs.Prelude.{ℕ, ◌≡◌, ◌≢◌, ◌⊎◌, List, ◌++◌, false, Some, None, Ok, Err}
use Rattle.lms_blocks.specs.Writing.{AppendsFront}
use Rattle.lms_world.specs.Names.{Bytes}
use Rattle.lms_world.specs.Held.{Follows, Held}
use Rattle.lms_world.specs.declared.fault.WorldFault.TheVariants.{Device}
use Rattle.lms_commands.specs.InMemory.{FailsToLock, FailsToOpen, FindsState, Stays, WasState}
use Rattle.lms_commands.specs.Logs.{KeyState, WorldCalls}
use Rattle.lms_key_commands.specs.WitnessLogs.{IsDecimal, LogsWitness, LogsWitnessFailed, made_text, witness_line}
use Rattle.lms_commands.specs.declared.fault.Fault.{Fault}
use Rattle.lms_commands.specs.declared.fault.Fault.TheVariants.{BadCounter, OtherCounter, OutOfMemory, ReadWitness}
use Rattle.lms_commands.specs.declared.fault.Fault.TheVariants.{WitnessExists, WriteOutput}

-- the state counted as many indices as the text says, and had no witness; now it has one that says so, and nothing else
-- is changed
pub record MakesWitnessIn (counter : Bytes) (old new : Held) : Type 0 where
  pub state : KeyState
  pub was : WasState state old.state
  pub counter_is : IsDecimal counter state.index
  pub none_was : old.witness ≡ Ok None
  pub witness : new.witness ≡ Ok (Some (witness_line state))
  pub files : new.files ≡ old.files
  pub state_stays : new.state ≡ old.state
  pub nodes : new.nodes ≡ old.nodes
  pub in_use : new.in_use ≡ old.in_use
  pub nodes_fault : new.nodes_fault ≡ old.nodes_fault

-- of a world in memory, `witness` at status 0 makes a witness, and prints what it says and where it is
abbrev pub MakesWitnessInMemory : Type 0
MakesWitnessInMemory = (state place counter : Bytes) (before printed : List ℕ) (old new : Held)
    (earlier now : WorldCalls)
    → LogsWitness state place counter before printed earlier now
    → Follows (Some old) earlier (Some new) now
    → (old.in_use ≡ false)
    × ((makes : MakesWitnessIn counter old new) × (made : Bytes)
    × (printed ≡ before ++ made_text makes.state made))

-- a witness was there, or could not be read
abbrev pub WitnessWasThere : Fault → Held → Type 0
WitnessWasThere fault old =
    ((fault ≡ WitnessExists) × ((text : List ℕ) × (old.witness ≡ Ok (Some text))))
    ⊎ ((fault ≡ ReadWitness) × (old.witness ≡ Err Device))

-- why no witness is made, or it is not printed, in the order in which that is found
abbrev pub FailsToMakeWitness : Bytes → List ℕ → List ℕ → Fault → Held → Held → Type 0
FailsToMakeWitness counter before printed fault old new =
    ((fault ≡ BadCounter) × ((number : ℕ) → ¬ IsDecimal counter number) × (new ≡ old))
    ⊎ ((number : ℕ) × IsDecimal counter number
    × (FailsToLock fault old new
    ⊎ ((old.in_use ≡ false)
    × ((((fault ≡ OutOfMemory) ⊎ WitnessWasThere fault old) × Stays old new)
    ⊎ ((old.witness ≡ Ok None)
    × (FailsToOpen fault old new
    ⊎ (((finds : FindsState old new) × (fault ≡ OtherCounter finds.state.index)
    × (finds.state.index ≢ number))
    ⊎ ((fault ≡ WriteOutput) × ((makes : MakesWitnessIn counter old new) × (made : Bytes)
    × AppendsFront (Some before) (Some printed) (made_text makes.state made))))))))))

-- of a world in memory, this is why `witness` fails
abbrev pub FailsToMakeWitnessInMemory : Type 0
FailsToMakeWitnessInMemory = (state place counter : Bytes) (before printed : List ℕ) (fault : Fault)
    (old new : Held) (earlier now : WorldCalls)
    → LogsWitnessFailed state place counter before printed fault earlier now
    → Follows (Some old) earlier (Some new) now
    → FailsToMakeWitness counter before printed fault old new
