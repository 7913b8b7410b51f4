-- The calls that were made on a world, one after another.
use Rattle.std.specs.Prelude.{ℕ, List, [], ◌∷◌, ◌++◌, Bool, Option, Some, None, Result, Ok, Err}
use Rattle.std.specs.Prelude.{String, string_bytes}
use Rattle.std.specs.Global.{Global, Vec}
use Rattle.lms_book.specs.Stops.{StoreView}
use Rattle.lms_file_store.specs.declared.fault.LockFault.{LockFault}
use Rattle.lms_files.specs.declared.places.Output.{Output}
use Rattle.lms_file_store.specs.declared.fault.LockFault.TheVariants as fault
use Rattle.lms_world.specs.Names.{Bytes}
use Rattle.lms_world.specs.declared.fault.WorldFault.{WorldFault}

-- what a lock of a state comes to: it is acquired, or not available, or memory for it was refused
pub data Locking : Type 0 where
  Acquired : Locking
  NotAvailable : Locking
  NoMemory : Locking

-- what a write comes to
abbrev pub Writing : Type 0
Writing = Result (Unit {0}) WorldFault

-- what contracts see of a store that is taken out, and whether its next read may fail
pub record Taking : Type 0 where
  pub view : StoreView
  pub may_fail : Bool

-- one call, with what it was handed and what it gave
pub data Event : Type 0 where
  -- a file was read; or it was opened, and holds these bytes, where that is known
  Read : (name : Bytes) (answer : Result (List ℕ) WorldFault) → Event
  Opened : (name : Bytes) (answer : Result (Option (List ℕ)) WorldFault) → Event
  -- bytes were written to a file
  Written : (name : Bytes) (bytes : List ℕ) (answer : Writing) → Event
  -- a state was locked, and its lock handed back
  Locked : (name : Bytes) (answer : Locking) → Event
  Unlocked : Event
  -- it was asked whether there is the state of the lock
  Asked : (there : Bool) → Event
  -- what keeps the state was taken out, as contracts see it, and put back
  Taken : (store : Option Taking) → Event
  PutBack : (store : StoreView) → Event
  -- what is kept of nodes beside the state was read or written
  NodesRead : (text : Option (List ℕ)) → Event
  NodesWritten : (text : List ℕ) (answer : Writing) → Event
  -- the witness of the lock's state was read, which may not be there; a draft of it was written; or it
  -- was replaced by these bytes
  WitnessRead : (answer : Result (Option (List ℕ)) WorldFault) → Event
  WitnessDrafted : (answer : Writing) → Event
  WitnessWritten : (text : List ℕ) (answer : Writing) → Event
  -- a witness was made in a new file of this name, which is at that place
  WitnessMade : (name : Bytes) (text : List ℕ) (answer : Result Bytes WorldFault) → Event
  -- from here on an output is printed to, to which these bytes were printed before
  Printing : (before : List ℕ) → Event
  -- of a printer's own log alone: its stream took these bytes
  Printed : (bytes : List ℕ) → Event

-- a log, the newest event first, after these events, the first of them first
abbrev pub after : List Event → List Event → List Event
after [] log = log
after (event ∷ later) log = after later (event ∷ log)

-- the name of the file that an output is to be written to
abbrev pub output_name : Output → Bytes
output_name output = string_bytes output.name

-- what a read comes to
abbrev pub read_of : {E : Type 0} → Result (Vec ℕ) E → Result (List ℕ) E
read_of (Ok bytes) = Ok bytes.items
read_of (Err fault) = Err fault

-- what a read of a witness comes to
abbrev pub witness_of : {E : Type 0} → Result (Option (Vec ℕ)) E → Result (Option (List ℕ)) E
witness_of (Ok (Some text)) = Ok (Some text.items)
witness_of (Ok None) = Ok None
witness_of (Err fault) = Err fault

-- what the making of a witness comes to: where it is
abbrev pub place_of : {E : Type 0} → Result (String Global) E → Result Bytes E
place_of (Ok place) = Ok (string_bytes place)
place_of (Err fault) = Err fault

-- whether it was done, whatever it gave
abbrev pub done_of : {T E : Type 0} → Result T E → Result (Unit {0}) E
done_of (Ok it) = Ok tt
done_of (Err fault) = Err fault

-- what an opening comes to, where this is known of the files that it gives
abbrev pub opening_of : {C E : Type 0} → (C → Option (List ℕ)) → Result C E
    → Result (Option (List ℕ)) E
opening_of holds (Ok contents) = Ok (holds contents)
opening_of holds (Err fault) = Err fault

-- what a lock comes to
abbrev pub locking_of : {T : Type 0} → Result T LockFault → Locking
locking_of (Ok lock) = Acquired
locking_of (Err fault.InUse) = NotAvailable
locking_of (Err fault.Unreachable) = NotAvailable
locking_of (Err fault.OutOfMemory) = NoMemory

-- a store, as it is taken out
abbrev pub as_taken : {S : Type 0} → (S → StoreView) → (S → Bool) → S → Taking
as_taken seen may_fail store = record { view = seen store; may_fail = may_fail store }

-- the event of taking a store out, with none where that failed
abbrev pub taking_of : {S E : Type 0} → (S → StoreView) → (S → Bool) → Result S E → Event
taking_of seen may_fail (Ok store) = Taken (Some (as_taken seen may_fail store))
taking_of seen may_fail (Err fault) = Taken None

-- all bytes that a stream took
abbrev pub printed : List Event → List ℕ
printed [] = []
printed (Printed bytes ∷ log) = printed log ++ bytes
printed (other ∷ log) = printed log
