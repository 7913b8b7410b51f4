use Rattle.std.proofs.Common.{Option, rules, subst}
use Rattle.clap.specs.Words.{found_of}
use Rattle.lms_command_line.specs.Application.{Subcommand, subcommands}
use Rattle.lms_command_line.specs.Commands.{HasOptions}
use Rattle.lms_command_line.proofs.Parsing.{none_called}
use Rattle.lms_command_line.proofs.command.read.Goals as goal

pub unreachable-requires : goal.unreachable-requires
unreachable-requires c =
    subst (λ (o : Option Subcommand). HasOptions o (found_of c.args.options.now))
    (none_called subcommands c.args.name.now (search rules depth 20)) c.requires
