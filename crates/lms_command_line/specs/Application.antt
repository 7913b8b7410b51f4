-- The program's command line, as clap's definitions see it.
use Rattle.std.specs.Prelude.{true, List, [], Option, Some, codes, find, fold, map}
use Rattle.std.specs.Borrow.{Bor}
use Rattle.std.specs.Str.{bytes_eq}
use Rattle.clap.specs.Simple.{new_shape}
use Rattle.clap.specs.Words.{App, Rule, Shape, Text, new_app, new_rule, with_subcommand}
use Rattle.lms_command_line.specs.declared.command.table.TheConstants.{SUBCOMMANDS}

-- a subcommand: its name, and the names of its options, each of which has to be given
pub record Subcommand : Type 0 where
  pub name : Text
  pub options : List Text

-- a required option `--NAME VALUE`, read back by that name
abbrev pub required_option : Text → Rule
required_option name = record (new_rule name) { long = Some name; value_names = 1; required = true }

-- a subcommand with one required option for each name
abbrev pub shape_for : Subcommand → Shape
shape_for s = record (new_shape s.name) { rules = map required_option s.options }

abbrev pub app_for : Subcommand → App
app_for s = record { top = shape_for s; subs = [] }

-- a row of a table of subcommands, as code borrows it
abbrev pub TableRow : Type 0
TableRow = Bor Text × Bor Text × Bor Text × Bor (List (Bor Text × Bor Text × Bor Text))

-- the subcommand in a row
abbrev pub subcommand_in : TableRow → Subcommand
subcommand_in row = record { name = row.0.now; options = map (λ option. option.0.now) row.3.now }

-- a program with one more subcommand for each row
abbrev pub with_rows : App → List TableRow → App
with_rows = fold (λ a row. with_subcommand a (shape_for (subcommand_in row)))

-- a text in the program's table, whose references have no address
abbrev pub TextIn : Type 0
TextIn = record { now : Text }

-- the subcommand in a row of the program's table
abbrev pub described : TextIn × TextIn × TextIn × record { now : List (TextIn × TextIn × TextIn) } → Subcommand
described row = record { name = row.0.now; options = map (λ option. option.0.now) row.3.now }

abbrev pub subcommands : List Subcommand
subcommands = map described SUBCOMMANDS

-- the first of some subcommands that has this name
abbrev pub subcommand_called_in : List Subcommand → Text → Option Subcommand
subcommand_called_in among name = find (λ s. bytes_eq s.name name) among

-- the program's subcommand of this name
abbrev pub subcommand_called : Text → Option Subcommand
subcommand_called = subcommand_called_in subcommands

-- the program with no subcommand yet, a version, and the requirement that there be a subcommand
abbrev pub bare_app : App
bare_app = let start =
    new_app
    (codes "lms_tool") in record start {
      top = record start.top { has_version = true; subcommand_required = true };
    }

-- the whole program
abbrev pub lms_app : App
lms_app = fold with_subcommand bare_app (map shape_for subcommands)
