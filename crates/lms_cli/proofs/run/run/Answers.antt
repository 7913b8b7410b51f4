use Rattle.std.proofs.Common.{List, ℕ, Option, ap, ◌<◌, ◌∙◌, inl, inr, map, subst, sym}
use Rattle.lms_blocks.specs.Writing.{AppendsFront}
use Rattle.lms_commands.specs.Faults.{fault_line, status_number}
use Rattle.lms_commands.specs.Logs.{WorldCalls}
use Rattle.lms_commands.specs.declared.status.Status.{Status}
use Rattle.lms_world.proofs.Following.{then_nothing}
use Rattle.lms_cli.specs.RunLogs.{LogsFailed, TellsFault}
use Rattle.lms_cli.proofs.Ending.{runs, speaks}
use Rattle.lms_cli.proofs.Noting.{answered, plainly, quietly}
use Rattle.lms_cli.proofs.run.run.Goals as goal

pub returns-in-Ok : goal.returns-in-Ok
returns-in-Ok g c =
    let words = map g.S.AsStr.text c.args.words.now in
    let usage = c.in-Ok.ensures.usage in
    let quiet = c.in-Ok.ensures.quiet in
    let remark = c.remark.ensures in
    let contents = g.E.Write.contents in
    let looked_on = c.args.resources.now.looked_on in
    let told = answered contents words looked_on c.in-Ok.status _ _ _ usage quiet remark in
    runs _ _ _ _ _ (inl (c.in-Ok.ensures.logged, told)) c.answer.ensures.follows
    (plainly contents words looked_on c.in-Ok.status _ _ _ usage quiet remark)
    (quietly contents words looked_on c.in-Ok.status _ _ _ usage quiet remark)
    c.answer.ensures.unread

pub returns-in-Err : goal.returns-in-Err
returns-in-Err g c =
    let words = map g.S.AsStr.text c.args.words.now in
    let fault = c.in-Err.fault in
    let same = ap g.E.Write.contents c.in-Err.ensures.quiet in
    let after = g.E.Write.contents c.tell.new.errors in
    let told = subst (λ (text : Option (List ℕ)). TellsFault fault text after) same c.tell.ensures.told in
    let failed = subst (λ (calls : WorldCalls). LogsFailed words fault (g.I.Read.remaining c.args.input.now)
    (g.I.Read.remaining c.answer.new.input) c.args.output.now c.answer.new.output (g.W.World.events c.args.world.now) calls)
    (sym c.tell.ensures.unlogged) c.in-Err.ensures.log_failed in
    runs _ _ _ _ _ (inr (fault, c.tell.ensures.status, told, failed))
    (then_nothing c.answer.ensures.follows c.tell.ensures.unlogged c.tell.ensures.same)
    (λ off. inr (
      fault,
      c.tell.ensures.status,
      subst (λ (text : Option (List ℕ)). AppendsFront text after (fault_line fault)) same (c.tell.ensures.plain off),
    ))
    (λ low.
    let low_fault = subst (λ (s : Status). status_number s < 2) c.tell.ensures.status low in
    let said = speaks words fault _ _ _ _ _ _ low_fault c.in-Err.ensures.log_failed in
    inr (c.tell.ensures.status ∙ said.0, inl said.1))
    c.answer.ensures.unread
