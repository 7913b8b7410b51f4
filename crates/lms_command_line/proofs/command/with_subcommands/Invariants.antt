use Rattle.std.proofs.Common.{◌≡◌, take}
use Rattle.clap.specs.Words.{app_of}
use Rattle.lms_command_line.specs.Application.{with_rows}
use Rattle.lms_command_line.proofs.command.with_subcommands.Given as goal

-- the rows so far
abbrev pub invariant-loop-row : goal.invariant-loop-row
invariant-loop-row l = app_of l.program ≡ with_rows (app_of l.fn.program) (take l.row-index l.rows)
