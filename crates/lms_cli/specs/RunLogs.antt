-- The calls that a run of the program makes on its world, one after another, the newest first.
use Rattle.std.specs.Prelude.{◌≡◌, ◌⊎◌, ◌++◌, ℕ, List, Option, Some, string_bytes}
use Rattle.clap.specs.Words.{Text}
use Rattle.lms_blocks.specs.Writing.{AppendsFront}
use Rattle.lms_world.specs.Notes.{IsNote}
use Rattle.lms_commands.specs.Faults.{fault_line, status_of}
use Rattle.lms_commands.specs.Logs.{WorldCalls}
use Rattle.lms_commands.specs.declared.fault.Fault.{Fault}
use Rattle.lms_commands.specs.declared.fault.Fault.TheVariants.{OutOfMemory, WriteOutput}
use Rattle.lms_commands.specs.declared.status.Status.{Status}
use Rattle.lms_commands.specs.declared.status.Status.TheVariants.{Done, Negative, Usage}
use Rattle.lms_command_line.specs.Commands.{AreTakenAs, AsksForHelp, IsMistaken}
use Rattle.lms_cli.specs.Deeds.{deed}
use Rattle.lms_command_line.specs.declared.command.types.Command.{Command}
use Rattle.lms_command_line.specs.declared.fault.ClapText.{ClapText}

-- a command that the arguments ask for is done; or nothing is called: they ask for help, and a text of clap's is
-- printed, or they are mistaken, and nothing is
abbrev pub LogsAnswered : List Text → Status → Option (List ℕ) → Option (List ℕ) → List ℕ → List ℕ
    → WorldCalls → WorldCalls → Type 0
LogsAnswered words end input rest before printed old new =
    ((new ≡ old)
    × ((AsksForHelp words × (end ≡ Done) × ((help : ClapText) × (printed ≡ before ++ string_bytes help.text)))
    ⊎ (IsMistaken words × (end ≡ Usage) × (printed ≡ before))))
    ⊎ ((command : Command) × AreTakenAs words command
    × (deed command).done end input rest before printed old new)

-- a command that the arguments ask for fails; or nothing is called: memory ran out for the arguments, or they ask for
-- help, and of a text of clap's a beginning at most is printed
abbrev pub LogsFailed : List Text → Fault → Option (List ℕ) → Option (List ℕ) → List ℕ → List ℕ
    → WorldCalls → WorldCalls → Type 0
LogsFailed words fault input rest before printed old new =
    ((new ≡ old)
    × (((fault ≡ OutOfMemory) × (printed ≡ before))
    ⊎ (AsksForHelp words × (fault ≡ WriteOutput)
    × ((help : ClapText) × AppendsFront (Some before) (Some printed) (string_bytes help.text)))))
    ⊎ ((command : Command) × AreTakenAs words command
    × (deed command).failed fault input rest before printed old new)

-- what standard error is known to have taken stays, or, where the arguments are mistaken, grows by a
-- text of clap's or a beginning of it
abbrev pub TellsUsage : Status → Option (List ℕ) → Option (List ℕ) → Type 0
TellsUsage end before after =
    (after ≡ before) ⊎ ((end ≡ Usage) × ((text : ClapText) × AppendsFront before after (string_bytes text.text)))

-- a note is printed, or a beginning of it
abbrev pub IsNoted : Option (List ℕ) → Option (List ℕ) → Type 0
IsNoted before after = (note : List ℕ) × IsNote note × AppendsFront before after note

-- at a fault its line is printed, and at most a note after it, or a beginning of both
abbrev pub TellsFault : Fault → Option (List ℕ) → Option (List ℕ) → Type 0
TellsFault fault before after =
    (note : List ℕ) × IsNote note × AppendsFront before after (fault_line fault ++ note)

-- without a fault, a text of clap's, or at `Negative` a note
abbrev pub TellsAnswer : Status → Option (List ℕ) → Option (List ℕ) → Type 0
TellsAnswer end before after = TellsUsage end before after ⊎ ((end ≡ Negative) × IsNoted before after)

-- where nobody looks on there are no notes
abbrev pub TellsPlainly : Status → Option (List ℕ) → Option (List ℕ) → Type 0
TellsPlainly end before after =
    TellsUsage end before after
    ⊎ ((fault : Fault) × (end ≡ status_of fault) × AppendsFront before after (fault_line fault))

-- all calls of a run that ends so; at a fault, what standard error is known to have taken grows by
-- that fault's line, and at most a note after it, or a beginning of both, and by nothing else
abbrev pub LogsRun : List Text → Status → Option (List ℕ) → Option (List ℕ) → List ℕ → List ℕ
    → Option (List ℕ) → Option (List ℕ) → WorldCalls → WorldCalls → Type 0
LogsRun words end input rest before printed errors_before errors_after old new =
    (LogsAnswered words end input rest before printed old new × TellsAnswer end errors_before errors_after)
    ⊎ ((fault : Fault) × (end ≡ status_of fault)
    × TellsFault fault errors_before errors_after
    × LogsFailed words fault input rest before printed old new)
