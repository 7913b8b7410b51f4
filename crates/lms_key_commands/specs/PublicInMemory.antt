-- What `public` leaves in a world in memory, by its calls.
use Rattle.std.specs.Prelude.{ℕ, ◌≡◌, ◌⊎◌, List, ◌++◌, false, Some}
use Rattle.lms_spec.specs.Profile.{hss_public_key}
use Rattle.lms_hss.specs.Keys.{hss_key_of}
use Rattle.lms_blocks.specs.Writing.{AppendsFront}
use Rattle.lms_world.specs.Names.{Bytes}
use Rattle.lms_world.specs.Held.{Follows, Held, MayRefuse}
use Rattle.lms_commands.specs.InMemory.{FailsToLock, FailsToOpen, FindsState, WasState, WritesFile}
use Rattle.lms_key_commands.specs.KeygenLogs.{capacity_line}
use Rattle.lms_commands.specs.Logs.{IsWriteRefused, KeyState, WorldCalls, write_cause}
use Rattle.lms_key_commands.specs.PublicLogs.{LogsPublic, LogsPublicFailed}
use Rattle.lms_commands.specs.declared.fault.Fault.{Fault}
use Rattle.lms_commands.specs.declared.fault.Fault.TheVariants.{WriteOutput}

-- the file of this name holds RFC 8554's public key of the state's key, and nothing else is changed
pub record PublishesKeyIn (public : Bytes) (old new : Held) : Type 0 where
  pub state : KeyState
  pub was : WasState state old.state
  pub file : WritesFile public (hss_public_key (hss_key_of state.key)) old.files new.files
  pub state_stays : new.state ≡ old.state
  pub nodes : new.nodes ≡ old.nodes
  pub in_use : new.in_use ≡ old.in_use
  pub witness : new.witness ≡ old.witness

-- of a world in memory, `public` at status 0 publishes the state's key, and prints its capacity
abbrev pub PublishesKeyInMemory : Type 0
PublishesKeyInMemory = (state public : Bytes) (before printed : List ℕ) (old new : Held)
    (earlier now : WorldCalls)
    → LogsPublic state public before printed earlier now
    → Follows (Some old) earlier (Some new) now
    → (old.in_use ≡ false)
    × ((publishes : PublishesKeyIn public old new)
    × (printed ≡ before ++ capacity_line publishes.state.key))

-- why a state's key is not published, in the order in which that is found
abbrev pub FailsToPublishKey : Bytes → List ℕ → List ℕ → Fault → Held → Held → Type 0
FailsToPublishKey public before printed fault old new =
    FailsToLock fault old new
    ⊎ ((old.in_use ≡ false) × (FailsToOpen fault old new
    ⊎ ((IsWriteRefused fault × MayRefuse old public (write_cause fault) × FindsState old new)
    ⊎ ((fault ≡ WriteOutput) × ((publishes : PublishesKeyIn public old new)
    × AppendsFront (Some before) (Some printed) (capacity_line publishes.state.key))))))

-- of a world in memory, this is why `public` fails
abbrev pub FailsToPublishKeyInMemory : Type 0
FailsToPublishKeyInMemory = (state public : Bytes) (before printed : List ℕ) (fault : Fault)
    (old new : Held) (earlier now : WorldCalls)
    → LogsPublicFailed state public before printed fault earlier now
    → Follows (Some old) earlier (Some new) now
    → FailsToPublishKey public before printed fault old new
