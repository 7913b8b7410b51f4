use Rattle.std.proofs.Common.{rules, map, take, subst, sym, ap, ◌∙◌}
use Rattle.std.proofs.lemmas.List.{map_more, take_all}
use Rattle.lms_command_line.proofs.Building.{IsBuilt, app_with, with_option}
use Rattle.lms_command_line.proofs.command.subcommand.Goals as goal

pub loop-option-init : goal.loop-option-init
loop-option-init c = (search rules, search rules)

pub loop-option-preserved : goal.loop-option-preserved
loop-option-preserved c =
    let before = map (λ option. option.0.now) (take c.loop-option.option-index c.args.row.now.3.now) in
    let more = map_more (λ option. option.0.now) c.args.row.now.3.now c.loop-option.option-index _
    c.loop-option-test.true in
    subst (λ names. IsBuilt (app_with c.args.row.now.0.now names) c.in_ok-command.command) (sym more)
    (with_option c.args.row.now.0.now before _ c.loop-option.command c.required.result c.in_ok-command.command
    c.loop-option.invariant c.required.ensures.rule c.required.ensures.local c.in_ok-command.ensures)

pub returns-clause-app : goal.returns-clause-app
returns-clause-app c =
    c.loop-option.invariant.0
    ∙ ap (λ options. app_with c.args.row.now.0.now (map (λ option. option.0.now) options))
    (take_all _ c.args.row.now.3.now c.loop-option-test.false)

pub returns-clause-local : goal.returns-clause-local
returns-clause-local c = c.loop-option.invariant.1
