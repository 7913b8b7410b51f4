-- What `resume` leaves in a world in memory, by its calls.
use Rattle.std.specs.Prelude.{ℕ, ◌≡◌, ◌⊎◌, ◌+◌, ◌<◌, ◌≤◌, List, ◌++◌, false, None, Ok, Err, Some}
use Rattle.lms_book.specs.Stops.{IsLeftBy, Texts, only}
use Rattle.lms_blocks.specs.Writing.{AppendsFront}
use Rattle.lms_world.specs.Names.{Bytes}
use Rattle.lms_world.specs.Held.{Follows, Held}
use Rattle.lms_world.specs.declared.fault.WorldFault.TheVariants.{Device}
use Rattle.lms_commands.specs.InMemory.{FailsToLock, FailsToOpen, FindsState, Stays, WasState}
use Rattle.lms_commands.specs.Logs.{image_below}
use Rattle.lms_commands.specs.Logs.{KeyState, WorldCalls}
use Rattle.lms_commands.specs.declared.fault.Fault.{Fault}
use Rattle.lms_commands.specs.declared.fault.Fault.TheVariants.{BadCounter, OutOfMemory, ReadWitness, WriteOutput}
use Rattle.lms_commands.specs.declared.fault.Fault.TheVariants.{WriteStateBurnt}
use Rattle.lms_key_commands.specs.ResumeLogs.{IsNotResumed, IsOlder, LogsResume, LogsResumeFailed}
use Rattle.lms_key_commands.specs.ResumeLogs.{burnt_line}
use Rattle.lms_key_commands.specs.WitnessLogs.{IsDecimal}

-- the state was older than its witness, which says this end; nothing is changed but the state
pub record FindsOlder (end : ℕ) (old new : Held) : Type 0 where
  pub state : KeyState
  pub was : WasState state old.state
  pub text : List ℕ
  pub witness_was : old.witness ≡ Ok (Some text)
  pub older : IsOlder end state text
  pub files : new.files ≡ old.files
  pub nodes : new.nodes ≡ old.nodes
  pub in_use : new.in_use ≡ old.in_use
  pub nodes_fault : new.nodes_fault ≡ old.nodes_fault
  pub witness : new.witness ≡ old.witness

-- and now it counts as many indices as that
abbrev pub ResumesState : ℕ → Held → Held → Type 0
ResumesState end old new = (found : FindsOlder end old new) × (new.state ≡ only (image_below end found.state))

-- of a world in memory, `resume` at status 0 has the state count what its witness and the caller say
abbrev pub ResumesInMemory : Type 0
ResumesInMemory = (state counter : Bytes) (before printed : List ℕ) (old new : Held)
    (earlier now : WorldCalls)
    → LogsResume state counter before printed earlier now
    → Follows (Some old) earlier (Some new) now
    → (old.in_use ≡ false)
    × ((end : ℕ) × IsDecimal counter end × ((resumes : ResumesState end old new)
    × (printed ≡ before ++ burnt_line resumes.0.state.index end)))

-- the witness can't be read, or is not there, or memory for it is refused
abbrev pub FailsToSee : Fault → Held → Held → Type 0
FailsToSee fault old new =
    ((fault ≡ OutOfMemory)
    ⊎ ((fault ≡ ReadWitness) × ((old.witness ≡ Err Device) ⊎ (old.witness ≡ Ok None))))
    × Stays old new

-- the witness is read, and then the state is not; or it is, and not resumed
abbrev pub RefusesToResume : ℕ → Fault → Held → Held → Type 0
RefusesToResume end fault old new =
    (text : List ℕ) × (old.witness ≡ Ok (Some text)) × (FailsToOpen fault old new
    ⊎ ((found : FindsState old new) × IsNotResumed end text found.state fault))

-- the state counts indices up to this one, for certain
abbrev pub StateCountsTo : ℕ → KeyState → Texts → Texts → Type 0
StateCountsTo end state old new =
    ((end ≡ state.index) × (new ≡ old))
    ⊎ ((state.index < end) × (new ≡ only (image_below end state)))

-- it counts only some of the indices for certain, since memory ran out or its store failed, which may have stored more
abbrev pub ResumesInPart : ℕ → Fault → Held → Held → Type 0
ResumesInPart end fault old new =
    (found : FindsOlder end old new) × (at : ℕ) × (mid : Texts) × (at < end)
    × StateCountsTo at found.state old.state mid
    × (((fault ≡ OutOfMemory) × (new.state ≡ mid))
    ⊎ ((len : ℕ) × (fault ≡ WriteStateBurnt at len) × (1 ≤ len) × (at + len ≤ end)
    × ((new.state ≡ mid) ⊎ IsLeftBy (image_below (at + len) found.state) mid new.state)))

-- why a locked state is not resumed, or this is not printed, in the order in which that is found
abbrev pub FailsOnceLocked : ℕ → List ℕ → List ℕ → Fault → Held → Held → Type 0
FailsOnceLocked end before printed fault old new =
    FailsToSee fault old new
    ⊎ (RefusesToResume end fault old new
    ⊎ (ResumesInPart end fault old new
    ⊎ ((fault ≡ WriteOutput) × ((resumes : ResumesState end old new)
    × AppendsFront (Some before) (Some printed) (burnt_line resumes.0.state.index end)))))

-- why `resume` fails, from the text of the counter on, in the order in which that is found
abbrev pub FailsToResume : Bytes → List ℕ → List ℕ → Fault → Held → Held → Type 0
FailsToResume counter before printed fault old new =
    ((fault ≡ BadCounter) × ((number : ℕ) → ¬ IsDecimal counter number) × (new ≡ old))
    ⊎ ((end : ℕ) × IsDecimal counter end × (FailsToLock fault old new
    ⊎ ((old.in_use ≡ false) × FailsOnceLocked end before printed fault old new)))

-- of a world in memory, this is why `resume` fails
abbrev pub FailsToResumeInMemory : Type 0
FailsToResumeInMemory = (state counter : Bytes) (before printed : List ℕ) (fault : Fault)
    (old new : Held) (earlier now : WorldCalls)
    → LogsResumeFailed state counter before printed fault earlier now
    → Follows (Some old) earlier (Some new) now
    → FailsToResume counter before printed fault old new
