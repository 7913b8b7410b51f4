-- Files and a state in memory.
use Rattle.std.specs.Prelude.{ℕ, List, map, Bool, true, Option, Some, None, Result, Ok, Err, String, find, option_map}
use Rattle.std.specs.Prelude.{string_bytes}
use Rattle.std.specs.Global.{Global, Vec}
use Rattle.std.specs.Str.{bytes_eq}
use Rattle.lms_book.specs.Memory.{MemoryState, cannot_read, held}
use Rattle.lms_world.specs.Names.{Bytes}
use Rattle.lms_world.specs.Events.{read_of, witness_of}
use Rattle.lms_world.specs.Held.{Answers, Held}
use Rattle.lms_world.specs.declared.fault.WorldFault.{WorldFault}
use Rattle.lms_world.specs.declared.fault.WorldFault.TheVariants.{Device}
use Rattle.lms_world.specs.declared.memory.MemoryWorld.{MemoryWorld}

-- a name, and what a read of it answers
abbrev pub Entry : Type 0
Entry = String Global × Result (Vec ℕ) WorldFault

abbrev pub entry_answer : Option Entry → Result (List ℕ) WorldFault
entry_answer None = Err Device
entry_answer (Some entry) = read_of entry.1

-- the entry of the name that counts: the first
abbrev pub entry_of : MemoryWorld → List ℕ → Option Entry
entry_of world name = find (λ entry. bytes_eq (string_bytes entry.0) name) world.entries.items

-- what a read of the name answers: with no entry there is no file
abbrev pub answer_of : MemoryWorld → List ℕ → Result (List ℕ) WorldFault
answer_of world name = entry_answer (entry_of world name)

-- the bytes of a state: with no store there are none
abbrev pub state_text : Option MemoryState → Option (List ℕ)
state_text None = None
state_text (Some store) = store.text

-- whether a read of a state fails: with no store it does
abbrev pub state_fails : Option MemoryState → Bool
state_fails None = true
state_fails (Some store) = cannot_read store

-- the store that keeps the state, where there is one
abbrev pub store_in : MemoryWorld → Option MemoryState
store_in world = world.state

-- whether another program has the lock
abbrev pub is_used_elsewhere : MemoryWorld → Bool
is_used_elsewhere world = world.in_use

-- what is kept of nodes beside the state, where anything is
abbrev pub nodes_in : MemoryWorld → Option (List ℕ)
nodes_in world = option_map (λ nodes. nodes.items) world.nodes

-- by which fault a write of nodes fails, where it does
abbrev pub nodes_fault_in : MemoryWorld → Option WorldFault
nodes_fault_in world = world.nodes_fault

-- the bytes of the witness, or by which fault it can't be read or written
abbrev pub witness_in : MemoryWorld → Result (Option (List ℕ)) WorldFault
witness_in world = witness_of world.witness

-- the world with this witness
abbrev pub with_witness_kept : Vec ℕ → MemoryWorld → MemoryWorld
with_witness_kept text world = record world { witness = Ok (Some text) }

-- the world in which the witness can't be read or written, by this fault
abbrev pub with_failing_witness : WorldFault → MemoryWorld → MemoryWorld
with_failing_witness fault world = record world { witness = Err fault }

-- the world with this store for its state
abbrev pub with_store : MemoryState → MemoryWorld → MemoryWorld
with_store store world = record world { state = Some store }

-- the world with its lock held by another program
abbrev pub used_elsewhere : MemoryWorld → MemoryWorld
used_elsewhere world = record world { in_use = true }

-- the world with this kept of nodes
abbrev pub with_nodes : Vec ℕ → MemoryWorld → MemoryWorld
with_nodes nodes world = record world { nodes = Some nodes }

-- the world in which each write of nodes fails so
abbrev pub with_failing_nodes : WorldFault → MemoryWorld → MemoryWorld
with_failing_nodes fault world = record world { nodes_fault = Some fault }

-- an entry, as contracts see it
abbrev pub answer_at : Entry → Bytes × Result (List ℕ) WorldFault
answer_at entry = (string_bytes entry.0, read_of entry.1)

-- what reads of files answer
abbrev pub files_in : MemoryWorld → Answers
files_in world = map answer_at world.entries.items

-- what the world holds
abbrev pub held_in : MemoryWorld → Held
held_in world =
    record {
      files = files_in world;
      state = held (state_text (store_in world));
      may_fail = state_fails (store_in world);
      in_use = is_used_elsewhere world;
      nodes = nodes_in world;
      nodes_fault = nodes_fault_in world;
      witness = witness_in world;
    }
