use Rattle.std.proofs.Common.{◌∙◌, ap, sym}
use Rattle.std.proofs.lemmas.List.{take_all}
use Rattle.std.proofs.lemmas.List.Sums.{fold_more}
use Rattle.clap.specs.Words.{app_of}
use Rattle.lms_command_line.specs.Application.{with_rows}
use Rattle.lms_command_line.proofs.Building.{with_command}
use Rattle.lms_command_line.proofs.command.with_subcommands.Goals as goal

pub loop-row-preserved : goal.loop-row-preserved
loop-row-preserved c =
    with_command _ _ _ _ _ c.loop-row.invariant c.in_ok-subcommand.ensures.app c.in_ok-subcommand.ensures.local
    c.in_ok-program.ensures
    ∙ sym (fold_more _ (app_of c.args.program) c.args.rows.now c.loop-row.row-index _ c.loop-row-test.true)

pub returns : goal.returns
returns c =
    c.loop-row.invariant ∙ ap (with_rows (app_of c.args.program)) (take_all _ c.args.rows.now c.loop-row-test.false)
