-- What a world in memory holds, and what each call makes of it. Of a disk nothing is known.
use Rattle.std.specs.Prelude.{ℕ, ◌≡◌, ◌⊎◌, List, [], ◌∷◌, ◌++◌, Bool, true, false, if◌then◌else◌, Option, Some, None}
use Rattle.std.specs.Prelude.{Result, Ok, Err, ◌≢◌}
use Rattle.std.specs.Str.{bytes_eq}
use Rattle.lms_book.specs.Stops.{Texts}
use Rattle.lms_world.specs.Names.{Bytes}
use Rattle.lms_world.specs.Events.{Event, Read, Opened, Written, Locked, Unlocked, Asked}
use Rattle.lms_world.specs.Events.{Acquired, NotAvailable, NoMemory}
use Rattle.lms_world.specs.Events.{Taken, PutBack, NodesRead, NodesWritten, Printing, Printed}
use Rattle.lms_world.specs.Events.{WitnessDrafted, WitnessMade, WitnessRead, WitnessWritten}
use Rattle.lms_world.specs.declared.fault.WorldFault.{WorldFault}
use Rattle.lms_world.specs.declared.fault.WorldFault.TheVariants.{Device, OutOfMemory}

-- names, each with what a read of it answers
abbrev pub Answers : Type 0
Answers = List (Bytes × Result (List ℕ) WorldFault)

-- what a world in memory holds
pub record Held : Type 0 where
  -- the newest answer of a name is first, and counts
  pub files : Answers
  -- what a crash leaves of the state, whatever its name, and whether a read of it may fail
  pub state : Texts
  pub may_fail : Bool
  -- whether another program has the lock
  pub in_use : Bool
  -- what is kept of nodes, and by which fault a write of them fails
  pub nodes : Option (List ℕ)
  pub nodes_fault : Option WorldFault
  -- the bytes of the witness, or by which fault it can't be read or written
  pub witness : Result (Option (List ℕ)) WorldFault

-- what is known of a world's files and states: of a disk nothing
abbrev pub Memory : Type 0
Memory = Option Held

-- what a read of the name answers: with no entry there is no file
abbrev pub answer_in : Answers → Bytes → Result (List ℕ) WorldFault
answer_in [] name = Err Device
answer_in (entry ∷ older) name = if bytes_eq entry.0 name then entry.1 else answer_in older name

-- a read or a write of the name may be refused by this fault: by its answer, or since memory ran out
abbrev pub MayRefuse : Held → Bytes → WorldFault → Type 0
MayRefuse held name fault = (answer_in held.files name ≡ Err fault) ⊎ (fault ≡ OutOfMemory)

-- a write of nodes may be refused by this fault
abbrev pub MayRefuseNodes : Held → WorldFault → Type 0
MayRefuseNodes held fault = (held.nodes_fault ≡ Some fault) ⊎ (fault ≡ OutOfMemory)

-- whether there is a state: not where a crash leaves none
abbrev pub is_there : Texts → Bool
is_there (Some []) = false
is_there other = true

abbrev pub with_file : Bytes → List ℕ → Held → Held
with_file name bytes held = record held { files = (name, Ok bytes) ∷ held.files }

abbrev pub with_state : Texts → Bool → Held → Held
with_state texts may_fail held = record held { state = texts; may_fail = may_fail }

abbrev pub with_nodes_kept : List ℕ → Held → Held
with_nodes_kept text held = record held { nodes = Some text }

-- a read or a write of the witness may be refused by this fault
abbrev pub MayRefuseWitness : Held → WorldFault → Type 0
MayRefuseWitness held fault = (held.witness ≡ Err fault) ⊎ (fault ≡ OutOfMemory)

-- the making of a witness may be refused by this fault: as a write of it, or by `Device` unless
-- there is none
abbrev pub MayRefuseMaking : Held → WorldFault → Type 0
MayRefuseMaking held fault = MayRefuseWitness held fault ⊎ ((fault ≡ Device) × (held.witness ≢ Ok None))

abbrev pub with_witness : List ℕ → Held → Held
with_witness text held = record held { witness = Ok (Some text) }

-- what a call makes of what is held, and which answers that allows
abbrev pub Acts : Event → Held → Held → Type 0
Acts (Read name (Ok bytes)) old new = (new ≡ old) × (answer_in old.files name ≡ Ok bytes)
Acts (Read name (Err fault)) old new = (new ≡ old) × MayRefuse old name fault
Acts (Opened name (Ok (Some bytes))) old new =
    (new ≡ old) × (answer_in old.files name ≡ Ok bytes)
Acts (Opened name (Ok None)) old new = ⊥
Acts (Opened name (Err fault)) old new = (new ≡ old) × MayRefuse old name fault
Acts (Written name bytes (Ok done)) old new = new ≡ with_file name bytes old
Acts (Written name bytes (Err fault)) old new = (new ≡ old) × MayRefuse old name fault
Acts (Locked name Acquired) old new = (new ≡ old) × (old.in_use ≡ false)
Acts (Locked name NotAvailable) old new = (new ≡ old) × (old.in_use ≡ true)
Acts (Locked name NoMemory) old new = new ≡ old
Acts Unlocked old new = new ≡ old
Acts (Asked there) old new = (new ≡ old) × (there ≡ is_there old.state)
Acts (Taken (Some store)) old new =
    (store.view.now ≡ old.state) × (store.may_fail ≡ old.may_fail)
    × (new ≡ with_state (Some []) true old)
Acts (Taken None) old new = new ≡ old
Acts (PutBack store) old new = (may_fail : Bool) × (new ≡ with_state store.now may_fail old)
Acts (NodesRead (Some text)) old new = (new ≡ old) × (old.nodes ≡ Some text)
Acts (NodesRead None) old new = new ≡ old
Acts (NodesWritten text (Ok done)) old new = new ≡ with_nodes_kept text old
Acts (NodesWritten text (Err fault)) old new = (new ≡ old) × MayRefuseNodes old fault
Acts (WitnessRead (Ok found)) old new = (new ≡ old) × (old.witness ≡ Ok found)
Acts (WitnessRead (Err fault)) old new = (new ≡ old) × MayRefuseWitness old fault
Acts (WitnessDrafted (Ok done)) old new = new ≡ old
Acts (WitnessDrafted (Err fault)) old new = (new ≡ old) × MayRefuseWitness old fault
Acts (WitnessWritten text (Ok done)) old new = new ≡ with_witness text old
Acts (WitnessWritten text (Err fault)) old new = (new ≡ old) × MayRefuseWitness old fault
Acts (WitnessMade name text (Ok place)) old new = (new ≡ with_witness text old) × (old.witness ≡ Ok None)
Acts (WitnessMade name text (Err fault)) old new = (new ≡ old) × MayRefuseMaking old fault
Acts (Printing before) old new = new ≡ old
Acts (Printed bytes) old new = new ≡ old

-- as `Acts`, of any world: of a disk nothing is known, before and after the call
abbrev pub Does : Event → Memory → Memory → Type 0
Does event None None = Unit {0}
Does event (Some old) (Some new) = Acts event old new
Does event old new = ⊥

-- what is held before and after calls that were made one after another, of which the newest is
-- first
abbrev pub Replays : Held → List Event → Held → Type 0
Replays old [] new = new ≡ old
Replays old (event ∷ earlier) new =
    (between : Held) × Replays old earlier between × Acts event between new

-- calls were added to those before, and each did what it does; of a disk it says nothing
abbrev pub AreAdded : Memory → List Event → Memory → List Event → Type 0
AreAdded None before None now = Unit {0}
AreAdded (Some old) before (Some new) now =
    (added : List Event) × (now ≡ added ++ before) × Replays old added new
AreAdded old before new now = ⊥

-- from one moment to another, each with what is known of the world and the calls up to it, the
-- world did what the calls say, and nothing else. Of a disk, of which nothing is known, it says
-- nothing
pub record Follows (old : Memory) (before : List Event) (new : Memory)
    (now : List Event) : Type 0 where
  pub calls : AreAdded old before new now
