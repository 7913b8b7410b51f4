-- What the command is that clap's definition makes of the arguments, and which faults it may have.
use Rattle.std.specs.Prelude.{◌≡◌, ◌≢◌, ◌⊎◌, true, List, [], ◌∷◌, Option, Some, None, IsSome, map, string_bytes}
use Rattle.std.specs.List.{AllByRecursion}
use Rattle.clap.specs.Words.{Kinds, IsAmong, Row, Text, first_of, first_value, subcommand_of, fault_of, takes}
use Rattle.clap.specs.declared.error.kind.ErrorKind.{ErrorKind}
use Rattle.clap.specs.declared.error.kind.ErrorKind.TheVariants as kind
use Rattle.clap.specs.declared.parser.matches.Found.{Found}
use Rattle.lms_command_line.specs.Application.{Subcommand, described, lms_app}
use Rattle.lms_command_line.specs.declared.command.table.TheConstants.{BATCH, ENDORSE, INFO, INSPECT, JOIN, JOIN_PUBLIC, KEYGEN}
use Rattle.lms_command_line.specs.declared.command.table.TheConstants.{PUBLIC, RESUME, SERVE, SIGN, VERIFY, WITNESS}
use Rattle.lms_command_line.specs.declared.command.types.Command.{Command}
use Rattle.lms_command_line.specs.declared.command.types.Command.TheVariants.{Batch, Endorse, Info, Inspect, Join, JoinPublic}
use Rattle.lms_command_line.specs.declared.command.types.Command.TheVariants.{Keygen}
use Rattle.lms_command_line.specs.declared.command.types.Command.TheVariants.{Public, Resume, Serve, Sign, Verify, Witness}
use Rattle.lms_command_line.specs.declared.fault.CommandFault.{CommandFault}
use Rattle.lms_command_line.specs.declared.fault.CommandFault.TheVariants.{Help, Usage, OutOfMemory}

-- a subcommand's options have these texts in these rows, in turn
abbrev pub HasTexts : Subcommand → List Row → List Text → Type 0
HasTexts s rows texts =
    map (λ option. first_of option rows) s.options ≡ map (λ text. Some text) texts

-- clap's definition reads the arguments as this subcommand, with these texts of its options in turn
abbrev pub AsksFor : Subcommand → List Text → List Text → Type 0
AsksFor s texts words =
    (rows : List Row) × (subcommand_of lms_app words ≡ Some (s.name, rows)) × HasTexts s rows texts

-- a command's subcommand, and the texts of its options in turn
abbrev pub spelling : Command → Subcommand × List Text
spelling (Keygen levels seed id state public) =
    (described KEYGEN, map string_bytes (levels ∷ seed ∷ id ∷ state ∷ public ∷ []))
spelling (Info state) = (described INFO, map string_bytes (state ∷ []))
spelling (Inspect file) = (described INSPECT, map string_bytes (file ∷ []))
spelling (Public state public) = (described PUBLIC, map string_bytes (state ∷ public ∷ []))
spelling (Sign state random message out) =
    (described SIGN, map string_bytes (state ∷ random ∷ message ∷ out ∷ []))
spelling (Endorse state random signer joined out) =
    (described ENDORSE, map string_bytes (state ∷ random ∷ signer ∷ joined ∷ out ∷ []))
spelling (Batch state workers) = (described BATCH, map string_bytes (state ∷ workers ∷ []))
spelling (Serve state workers) = (described SERVE, map string_bytes (state ∷ workers ∷ []))
spelling (Witness state on counter) =
    (described WITNESS, map string_bytes (state ∷ on ∷ counter ∷ []))
spelling (Resume state counter) = (described RESUME, map string_bytes (state ∷ counter ∷ []))
spelling (Verify public message signature) =
    (described VERIFY, map string_bytes (public ∷ message ∷ signature ∷ []))
spelling (Join public endorsement signer signature out) =
    (described JOIN, map string_bytes (public ∷ endorsement ∷ signer ∷ signature ∷ out ∷ []))
spelling (JoinPublic public signer out) =
    (described JOIN_PUBLIC, map string_bytes (public ∷ signer ∷ out ∷ []))

-- the arguments are those of this command, as clap's definition has it
abbrev pub AreWordsOf : List Text → Command → Type 0
AreWordsOf words command = AsksFor (spelling command).0 (spelling command).1 words

-- clap's definition takes the arguments, as this command
abbrev pub AreTakenAs : List Text → Command → Type 0
AreTakenAs words command = AreWordsOf words command × (fault_of lms_app words ≡ [])

-- the command is the subcommand of this name with these options
abbrev pub IsMadeOf : Text → List Row → Command → Type 0
IsMadeOf name rows command =
    ((spelling command).0.name ≡ name)
    × HasTexts (spelling command).0 rows (spelling command).1

-- each option of the subcommand has a value
abbrev pub HasOptions : Option Subcommand → Found → Type 0
HasOptions None found = ⊥
HasOptions (Some s) found = AllByRecursion (λ option. IsSome (first_value found option)) s.options

-- the kinds of what asks for help or the version
abbrev pub IsShown : ErrorKind → Type 0
IsShown k = (k ≡ kind.DisplayHelp) ⊎ (k ≡ kind.DisplayVersion)

-- one of the kinds asks for something else than help or the version
abbrev pub HasMistake : Kinds → Type 0
HasMistake kinds = (k : ErrorKind) × IsAmong k kinds × ¬ IsShown k

-- what an error of this kind may become; memory may run out at any
abbrev pub FaultOf : ErrorKind → CommandFault → Type 0
FaultOf k (Help text) = IsShown k
FaultOf k (Usage text) = (¬ IsShown k) × (k ≢ kind.OutOfMemory)
FaultOf k OutOfMemory = Unit {0}

-- clap's definition doesn't take the arguments, and has help or the version to show there
abbrev pub AsksForHelp : List Text → Type 0
AsksForHelp words = (takes lms_app words ≢ true)
    × ((k : ErrorKind) × IsAmong k (fault_of lms_app words) × IsShown k)

-- clap's definition doesn't take the arguments, and has a mistake to report there
abbrev pub IsMistaken : List Text → Type 0
IsMistaken words = (takes lms_app words ≢ true) × HasMistake (fault_of lms_app words)

-- the fault is one that clap's definition has at the arguments; memory may run out at any
abbrev pub FaultAt : List Text → CommandFault → Type 0
FaultAt words (Help text) = AsksForHelp words
FaultAt words (Usage text) = IsMistaken words
FaultAt words OutOfMemory = Unit {0}
