use Rattle.std.proofs.Common.{map, take}
use Rattle.lms_command_line.proofs.Building.{IsBuilt, app_with}
use Rattle.lms_command_line.proofs.command.subcommand.Given as goal

-- the options so far
abbrev pub invariant-loop-option : goal.invariant-loop-option
invariant-loop-option l =
    IsBuilt (app_with l.fn.row.0.now (map (λ option. option.0.now) (take l.option-index l.options))) l.command
