-- What a parse of the program's words gives its caller.
use Rattle.std.proofs.Common.{◌≡◌, ◌∙◌, refl, sym, ap, subst, Bool, true, false, List, [], ◌∷◌, Option, Some, None}
use Rattle.std.proofs.Common.{IsSome, is_some, inl, inr}
use Rattle.std.specs.List.{AllByRecursion}
use Rattle.std.specs.Prelude.{Box, cond}
use Rattle.std.specs.Str.{bytes_eq}
use Rattle.std.proofs.lemmas.Slice.Eq.{bytes_eq-Decides}
use Rattle.std.specs.Option.{option_map, unwrap_or}
use Rattle.clap.specs.Walk.{Row, Text, first_of, rows_of}
use Rattle.clap.specs.Simple.{App, HasMatchesOf, subcommand_of, subcommand_rows, subcommand_rows_of}
use Rattle.clap.specs.Matches.{first_value, subcommand_name_of}
use Rattle.clap.specs.Values.{kind_of}
use Rattle.clap.specs.Kinds.{HasKind, IsAmong}
use Rattle.clap.specs.Faults.{fault_of, is_simple_and_free}
use Rattle.clap.specs.Takes.{takes}
use Rattle.clap.specs.declared.error.Error.{Error}
use Rattle.clap.specs.declared.error.kind.ErrorKind.{ErrorKind}
use Rattle.clap.specs.declared.error.kind.ErrorKind.TheVariants as kind
use Rattle.clap.specs.declared.parser.matches.ArgMatches.{ArgMatches}
use Rattle.clap.specs.declared.parser.matches.ArgMatches.TheViews.{out-ArgMatches, out-SubCommand}
use Rattle.clap.specs.declared.parser.matches.Found.{Found}
use Rattle.clap.specs.declared.parser.matches.SubCommand.{SubCommand}
use Rattle.std.specs.Box.{box_value}
use Rattle.clap.proofs.WalkLemmas.{first_value-rows}
use Rattle.lms_command_line.specs.Application.{Subcommand, subcommand_called, subcommand_called_in, lms_app}
use Rattle.lms_command_line.specs.Commands.{AreWordsOf, FaultAt, FaultOf, HasOptions, IsMadeOf, IsShown}
use Rattle.lms_command_line.specs.declared.command.types.Command.{Command}
use Rattle.lms_command_line.specs.declared.fault.CommandFault.{CommandFault}
use Rattle.lms_command_line.specs.declared.fault.CommandFault.TheVariants.{Help, Usage, OutOfMemory}
use Rattle.lms_command_line.proofs.CommandLine.{HasValues, IsWellRead, lms_app_is_free, lms_app_is_simple, well_read}

-- ---- clap's clauses, over a command that is built as the program

pub no_fault : (a : App) (words : List Text) → a ≡ lms_app → (is_simple_and_free a ≡ true → fault_of a words ≡ [])
    → fault_of lms_app words ≡ []
no_fault a words is_app none =
    ap (λ (b : App). fault_of b words) (sym is_app) ∙ none (ap is_simple_and_free is_app ∙ lms_app_is_free)

pub some_kind : (a : App) (words : List Text) (e : Error) → a ≡ lms_app
    → (is_simple_and_free a ≡ true → HasKind (fault_of a words) e) → HasKind (fault_of lms_app words) e
some_kind a words e is_app has =
    subst (λ (b : App). HasKind (fault_of b words) e) is_app (has (ap is_simple_and_free is_app ∙ lms_app_is_free))

pub memory_where_taken : (a : App) (words : List Text) (e : Error) → a ≡ lms_app
    → (takes a words ≡ true → kind_of e ≡ kind.OutOfMemory)
    → takes lms_app words ≡ true → kind_of e ≡ kind.OutOfMemory
memory_where_taken a words e is_app passes taken = passes (ap (λ (b : App). takes b words) is_app ∙ taken)

pub matches_of_program : (a : App) (words : List Text) (m : ArgMatches) → a ≡ lms_app → HasMatchesOf a words m
    → HasMatchesOf lms_app words m
matches_of_program a words m is_app matches = subst (λ (b : App). HasMatchesOf b words m) is_app matches

-- ---- a parse that failed

-- memory ran out, and so the fault says
pub only_memory : (k : ErrorKind) (fault : CommandFault) → FaultOf k fault → k ≡ kind.OutOfMemory → fault ≡ OutOfMemory
only_memory k (Help text) (inl is) memory = cc
only_memory k (Help text) (inr is) memory = cc
only_memory k (Usage text) is memory = absurd (is.1 memory)
only_memory k OutOfMemory is memory = refl

-- the fault is one that clap's definition has at the arguments
pub fault_is_there : (words : List Text) (e : Error) (fault : CommandFault) → FaultOf (kind_of e) fault
    → HasKind (fault_of lms_app words) e
    → (takes lms_app words ≡ true → kind_of e ≡ kind.OutOfMemory) → FaultAt words fault
fault_is_there words e (Help text) (inl is) (inl memory) taken = cc
fault_is_there words e (Help text) (inr is) (inl memory) taken = cc
fault_is_there words e (Help text) is (inr among) taken =
    (λ takes. no_memory is (taken takes), (kind_of e, among, is))
  where
    no_memory : IsShown (kind_of e) → kind_of e ≡ kind.OutOfMemory → ⊥
    no_memory (inl help) memory = cc
    no_memory (inr version) memory = cc
fault_is_there words e (Usage text) is (inl memory) taken = absurd (is.1 memory)
fault_is_there words e (Usage text) is (inr among) taken = (λ takes. is.1 (taken takes), (kind_of e, among, is.0))
fault_is_there words e OutOfMemory is has taken = tt

-- ---- a parse that gave matches

name_in_rows : {Z : Type 0} (sub : Option (Box SubCommand Z))
    → option_map (λ b. (out-SubCommand (box_value b)).name.now) sub ≡ option_map (λ p. p.0) (subcommand_rows sub)
name_in_rows None = refl
name_in_rows (Some b) = refl

module _ (words : List Text) (m : ArgMatches) (none : fault_of lms_app words ≡ [])
    (matches : HasMatchesOf lms_app words m) where
  read_as : IsWellRead words
  read_as = well_read words none

  entered_rows : subcommand_rows_of m ≡ Some (read_as.0.name, read_as.1)
  entered_rows = (matches lms_app_is_simple).1 ∙ read_as.3

  entered_name : subcommand_name_of m ≡ Some read_as.0.name
  entered_name = name_in_rows (out-ArgMatches m).subcommand ∙ ap (option_map (λ p. p.0)) entered_rows

  -- there is a subcommand
  pub some_entered : None ≡ subcommand_name_of m → ⊥
  some_entered missing =
      let other : None ≡ Some read_as.0.name = missing ∙ entered_name in
      cc

  module _ (name : Text) (found : Found) (named : Some name ≡ subcommand_name_of m)
      (is : Some (rows_of found) ≡ option_map (λ p. p.1) (subcommand_rows_of m)) where
    same_name : read_as.0.name ≡ name
    same_name = ap (λ o. unwrap_or o []) (sym (named ∙ entered_name))

    same_rows : read_as.1 ≡ rows_of found
    same_rows = ap (λ o. unwrap_or o []) (sym (is ∙ ap (option_map (λ p. p.1)) entered_rows))

    -- its options are those that clap's definition gives
    options_read : subcommand_of lms_app words ≡ Some (name, rows_of found)
    options_read =
        read_as.3 ∙ ap (λ (n : Text). Some (n, read_as.1)) same_name
        ∙ ap (λ (rows : List Row). Some (name, rows)) same_rows

    there : (options : List Text) → HasValues options read_as.1
        → AllByRecursion (λ option. IsSome (first_value found option)) options
    there [] has = tt
    there (option ∷ options) has =
        (ap is_some (first_value-rows found option ∙ ap (first_of option) (sym same_rows)) ∙ has.0, there options has.1)

    -- and each has a value
    pub options_are_there : HasOptions (subcommand_called name) found
    options_are_there =
        subst (λ (o : Option Subcommand). HasOptions o found) (sym read_as.2 ∙ ap subcommand_called same_name)
        (there read_as.0.options read_as.4)

    -- so a command made of them is the one that the arguments ask for
    pub reads_command : (command : Command) → IsMadeOf name (rows_of found) command → AreWordsOf words command
    reads_command command made =
        (rows_of found, options_read ∙ ap (λ (n : Text). Some (n, rows_of found)) (sym made.0), made.1)

-- no subcommand is called by a name that is none of theirs
pub none_called : (among : List Subcommand) (name : Text) → AllByRecursion (λ s. name ≡ s.name → ⊥) among
    → subcommand_called_in among name ≡ None
none_called [] name others = refl
none_called (s ∷ among) name (other, others) =
    go (bytes_eq s.name name) (bytes_eq-Decides s.name name).0 (none_called among name others)
  where
    go : (t : Bool) → (t ≡ true → s.name ≡ name) → subcommand_called_in among name ≡ None
        → cond t (Some s) (subcommand_called_in among name) ≡ None
    go true is none = absurd (other (sym (is refl)))
    go false is none = none
