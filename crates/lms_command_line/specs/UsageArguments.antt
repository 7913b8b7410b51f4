-- The arguments that the usage lines show.
use Rattle.std.specs.Prelude.{◌≡◌, ◌++◌, List, ◌∷◌, [], codes, true}
use Rattle.std.specs.List.{AllByRecursion}
use Rattle.clap.specs.Words.{Text, takes}
use Rattle.lms_command_line.specs.Application.{Subcommand, lms_app, subcommands}
use Rattle.lms_command_line.specs.Commands.{AsksFor}

-- `--NAME=TEXT` for each name and the text in its place
abbrev pub option_arguments : List Text → List Text → List Text
option_arguments (option ∷ options) (text ∷ texts) =
    (codes "--" ++ option ++ codes "=" ++ text) ∷ option_arguments options texts
option_arguments _ _ = []

-- a subcommand with each option and its text in one argument
abbrev pub arguments_for : Text → Subcommand → List Text → List Text
arguments_for program s texts = program ∷ s.name ∷ option_arguments s.options texts

-- clap's definition takes them, and reads the subcommand and the texts from them
abbrev pub TakesTexts : Subcommand → List Text → Type 0
TakesTexts s texts =
    (program : Text) → (takes lms_app (arguments_for program s texts) ≡ true)
    × AsksFor s texts (arguments_for program s texts)

-- so it is for all texts of these options, after such texts
abbrev pub TakesAll : Subcommand → List Text → List Text → Type 0
TakesAll s [] texts = TakesTexts s texts
TakesAll s (option ∷ options) texts = (text : Text) → TakesAll s options (texts ++ text ∷ [])

-- for each subcommand, whatever the texts are
abbrev pub UsagesAreTaken : Type 0
UsagesAreTaken = AllByRecursion (λ s. TakesAll s s.options []) subcommands
