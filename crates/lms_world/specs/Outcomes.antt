-- What a world in memory holds after calls, by the calls alone.
use Rattle.std.specs.Prelude.{ℕ, ◌≡◌, List, [], ◌∷◌, ◌++◌, Option, Some, Ok, Result}
use Rattle.lms_book.specs.Stops.{Texts}
use Rattle.lms_world.specs.Events.{Event, NodesWritten, PutBack, Taken, WitnessMade, WitnessWritten, Written}
use Rattle.lms_world.specs.Held.{Answers, Follows, Held}
use Rattle.lms_world.specs.declared.fault.WorldFault.{WorldFault}

-- the files, the newest call first: what was written, over what there was
abbrev pub files_after : List Event → Answers → Answers
files_after [] files = files
files_after (Written name bytes (Ok done) ∷ earlier) files = (name, Ok bytes) ∷ files_after earlier files
files_after (other ∷ earlier) files = files_after earlier files

-- the state: none while its store is out, and what the store leaves once it is put back
abbrev pub state_after : List Event → Texts → Texts
state_after [] state = state
state_after (Taken (Some store) ∷ earlier) state = Some []
state_after (PutBack store ∷ earlier) state = store.now
state_after (other ∷ earlier) state = state_after earlier state

-- what is kept of nodes
abbrev pub nodes_after : List Event → Option (List ℕ) → Option (List ℕ)
nodes_after [] nodes = nodes
nodes_after (NodesWritten text (Ok done) ∷ earlier) nodes = Some text
nodes_after (other ∷ earlier) nodes = nodes_after earlier nodes

-- the witness
abbrev pub witness_after : List Event → Result (Option (List ℕ)) WorldFault
    → Result (Option (List ℕ)) WorldFault
witness_after [] witness = witness
witness_after (WitnessWritten text (Ok done) ∷ earlier) witness = Ok (Some text)
witness_after (WitnessMade name text (Ok place) ∷ earlier) witness = Ok (Some text)
witness_after (other ∷ earlier) witness = witness_after earlier witness

abbrev pub HoldsAfter : List Event → Held → Held → Type 0
HoldsAfter calls old new =
    (new.files ≡ files_after calls old.files) × (new.state ≡ state_after calls old.state)
    × (new.nodes ≡ nodes_after calls old.nodes) × (new.in_use ≡ old.in_use)
    × (new.nodes_fault ≡ old.nodes_fault) × (new.witness ≡ witness_after calls old.witness)

-- a world in memory that followed its log holds what that says
abbrev pub HoldsWhatIsLogged : Type 0
HoldsWhatIsLogged = (old new : Held) (before now : List Event)
    → Follows (Some old) before (Some new) now
    → (added : List Event) × (now ≡ added ++ before) × HoldsAfter added old new
