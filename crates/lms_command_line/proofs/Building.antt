-- What clap's builders make of the program's subcommands and options.
use Rattle.std.proofs.Common.{◌≡◌, ◌∙◌, ◌||◌, ◌++◌, List, [], ◌∷◌, ap, false, refl, sym}
use Rattle.std.proofs.lemmas.List.{map_push}
use Rattle.clap.specs.Simple.{new_shape}
use Rattle.clap.specs.Words.{AddsArg, AddsSubcommand, App, Text, app_of, rule_of, with_rule, with_subcommand}
use Rattle.clap.specs.declared.builder.arg.Arg.{Arg}
use Rattle.clap.specs.declared.builder.command.Command.{Command}
use Rattle.clap.specs.declared.builder.command.Command.TheViews.{out-Command as fields_of}
use Rattle.lms_command_line.specs.Application.{Subcommand, app_for, required_option, shape_for}

-- a command with this shape and no global argument
abbrev pub IsBuilt : App → Command → Type 0
IsBuilt a c = (app_of c ≡ a) × ((fields_of c).has_globals ≡ false)

-- a subcommand of this name with these options
abbrev pub app_with : Text → List Text → App
app_with name options = app_for (record { name = name; options = options })

-- one more option
pub with_option : (name : Text) (options : List Text) (option : Text) (old : Command) (arg : Arg) (new : Command)
    → IsBuilt (app_with name options) old → rule_of arg ≡ required_option option → arg.global ≡ false
    → AddsArg old arg new → IsBuilt (app_with name (options ++ option ∷ [])) new
with_option name options option old arg new built rule local adds =
    let globals : ((fields_of old).has_globals || arg.global) ≡ false = rw (built.1, local) refl in (
      adds.shape local ∙ ap (λ (b : App). with_rule b (rule_of arg)) built.0
          ∙ ap (with_rule (app_with name options)) rule
          ∙ ap (λ rules. record { top = record (new_shape name) { rules = rules }; subs = [] })
          (sym (map_push required_option options option)),
      adds.globals ∙ globals,
    )

-- one more subcommand
pub with_command : (a : App) (s : Subcommand) (old sub new : Command) → app_of old ≡ a → app_of sub ≡ app_for s
    → (fields_of sub).has_globals ≡ false
    → AddsSubcommand old sub new → app_of new ≡ with_subcommand a (shape_for s)
with_command a s old sub new built is_sub local adds =
    adds.shape local ∙ ap (λ (b : App). with_subcommand b (app_of sub).top) built
    ∙ ap (λ (b : App). with_subcommand a b.top) is_sub
