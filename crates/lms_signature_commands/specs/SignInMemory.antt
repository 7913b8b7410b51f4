-- What `sign` leaves in a world in memory, by its calls.
use Rattle.std.specs.Prelude.{ℕ, ◌≡◌, ◌≢◌, ◌⊎◌, ◌+◌, ◌≤◌, List, ◌++◌, false, Option, Some, Ok, Err, IfSome, codes}
use Rattle.lms_spec.specs.HashLength.{hash_length}
use Rattle.lms_spec.specs.Hss.{capacity_of}
use Rattle.lms_hss.specs.Keys.{hss_key_of}
use Rattle.lms_book.specs.Stops.{only}
use Rattle.lms_kept.specs.Signed.{IsSignedByText}
use Rattle.lms_kept.specs.Ways.{Way}
use Rattle.lms_texts.specs.Descriptions.{number_line}
use Rattle.lms_world.specs.Names.{Bytes}
use Rattle.lms_world.specs.Held.{Follows, Held, answer_in}
use Rattle.lms_world.specs.declared.fault.WorldFault.TheVariants.{Device}
use Rattle.lms_commands.specs.InMemory.{FailsToLock, FailsToWatch, IsWatched, KeepsNodes, KeepsRight, SignsNone}
use Rattle.lms_commands.specs.InMemory.{WasState, WritesFile, noted}
use Rattle.lms_texts.specs.Options.{IsHexOf}
use Rattle.lms_commands.specs.Logs.{KeyState, WorldCalls, image_using}
use Rattle.lms_signature_commands.specs.SignLogs.{IsRandomizer, LogsSign, LogsSignFailed, Signing}
use Rattle.lms_commands.specs.declared.fault.Fault.{Fault}
use Rattle.lms_commands.specs.declared.fault.Fault.TheVariants.{BadRandom, OutOfMemory, ReadInput, WriteOutput}

-- the next index of the state's key is used, and signs; the witness, if there is one, does not refuse the state, and
-- says afterwards that it is used
pub record UsesIndex (nodes : Option (List ℕ)) (random message : List ℕ) (index : ℕ)
    (signature : List ℕ) (old new : Held) : Type 0 where
  pub state : KeyState
  pub was : WasState state old.state
  pub next : index ≡ state.index
  pub within : state.index + 1 ≤ capacity_of (hss_key_of state.key)
  pub trees : Option Way
  pub signed : IsSignedByText nodes state.key index random message signature trees
  pub stored : new.state ≡ only (image_using 1 state)
  pub kept : KeepsNodes trees old.nodes new.nodes
  pub watched : IsWatched state old.witness
  pub witness : new.witness ≡ noted 1 state old.witness

-- a message is signed by the next index, by nodes that were kept or by none
pub record SignsMessage (random message : Bytes) (old new : Held) : Type 0 where
  pub c : List ℕ
  pub text : List ℕ
  pub nodes : Option (List ℕ)
  pub index : ℕ
  pub signature : List ℕ
  pub randomizer : IsRandomizer random c
  pub given : answer_in old.files message ≡ Ok text
  pub free : old.in_use ≡ false
  pub nodes_were : IfSome nodes (λ bytes. old.nodes ≡ Some bytes)
  pub uses : UsesIndex nodes c text index signature old new

-- of a world in memory, `sign` at status 0 signs its message, writes the signature to its file, and
-- prints the index
abbrev pub SignsInMemory : Type 0
SignsInMemory = (asked : Signing) (before printed : List ℕ) (old new : Held) (earlier now : WorldCalls)
    → LogsSign asked before printed earlier now → Follows (Some old) earlier (Some new) now
    → (signs : SignsMessage asked.randomizer asked.message old new)
    × WritesFile asked.out signs.signature old.files new.files
    × (printed ≡ before ++ number_line (codes "index") signs.index)

-- why a message is not signed, or its signature not delivered, in the order in which that is found
abbrev pub FailsToSign : Bytes → Bytes → Bytes → Fault → Held → Held → Type 0
FailsToSign random message out fault old new =
    ((fault ≡ BadRandom) × (¬ IsHexOf hash_length random) × (new ≡ old))
    ⊎ (IsHexOf hash_length random
    × (((fault ≡ OutOfMemory) × (new ≡ old))
    ⊎ (((fault ≡ ReadInput) × (answer_in old.files message ≡ Err Device) × (new ≡ old))
    ⊎ ((text : List ℕ) × (answer_in old.files message ≡ Ok text)
    × (FailsToLock fault old new
    ⊎ ((old.in_use ≡ false) × (FailsToWatch fault old new
    ⊎ (SignsNone 1 fault old new
    ⊎ ((fault ≡ WriteOutput) × ((signs : SignsMessage random message old new)
    × ((new.files ≡ old.files) ⊎ WritesFile out signs.signature old.files new.files)))))))))))

-- of a world in memory, this is why `sign` fails; no file is changed but at `WriteOutput`
abbrev pub FailsToSignInMemory : Type 0
FailsToSignInMemory = (asked : Signing) (before printed : List ℕ) (fault : Fault)
    (old new : Held) (earlier now : WorldCalls)
    → LogsSignFailed asked before printed fault earlier now → Follows (Some old) earlier (Some new) now
    → FailsToSign asked.randomizer asked.message asked.out fault old new
    × (fault ≢ WriteOutput → new.files ≡ old.files)

-- what is kept of the key's trees is right after a message was signed, where it was before
abbrev pub NodesStayRight : Type 0
NodesStayRight = (random message : Bytes) (old new : Held)
    → (signs : SignsMessage random message old new)
    → KeepsRight old.nodes signs.uses.state.key → KeepsRight new.nodes signs.uses.state.key
