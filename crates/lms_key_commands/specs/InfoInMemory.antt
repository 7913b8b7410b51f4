-- What `info` finds in a world in memory, by its calls, and that it changes nothing.
use Rattle.std.specs.Prelude.{ℕ, ◌≡◌, ◌⊎◌, List, ◌++◌, false, Some}
use Rattle.lms_blocks.specs.Writing.{AppendsFront}
use Rattle.lms_world.specs.Names.{Bytes}
use Rattle.lms_world.specs.Held.{Follows, Held}
use Rattle.lms_commands.specs.InMemory.{FailsToLock, FailsToOpen, FindsState}
use Rattle.lms_commands.specs.Logs.{WorldCalls}
use Rattle.lms_key_commands.specs.InfoLogs.{info_of, LogsInfo, LogsInfoFailed}
use Rattle.lms_commands.specs.declared.fault.Fault.{Fault}
use Rattle.lms_commands.specs.declared.fault.Fault.TheVariants.{WriteOutput}

-- of a world in memory, `info` at status 0 prints what the state says
abbrev pub DescribesInMemory : Type 0
DescribesInMemory = (state : Bytes) (before printed : List ℕ) (old new : Held)
    (earlier now : WorldCalls)
    → LogsInfo state before printed earlier now
    → Follows (Some old) earlier (Some new) now
    → (old.in_use ≡ false)
    × ((finds : FindsState old new) × (printed ≡ before ++ info_of finds.state))

-- why a state is not described, in the order in which that is found
abbrev pub FailsToDescribe : List ℕ → List ℕ → Fault → Held → Held → Type 0
FailsToDescribe before printed fault old new =
    FailsToLock fault old new
    ⊎ ((old.in_use ≡ false) × (FailsToOpen fault old new
    ⊎ ((fault ≡ WriteOutput) × ((finds : FindsState old new)
    × AppendsFront (Some before) (Some printed) (info_of finds.state)))))

-- of a world in memory, this is why `info` fails
abbrev pub FailsToDescribeInMemory : Type 0
FailsToDescribeInMemory = (state : Bytes) (before printed : List ℕ) (fault : Fault)
    (old new : Held) (earlier now : WorldCalls)
    → LogsInfoFailed state before printed fault earlier now
    → Follows (Some old) earlier (Some new) now
    → FailsToDescribe before printed fault old new
