use Rattle.std.proofs.Common.{inl, inr, refl, ⊎_elim}
use Rattle.std.proofs.lemmas.Result.{IfErr-weaker, IfOk-weaker}
use Rattle.lms_cli.proofs.Ending.{any_front}
use Rattle.lms_cli.proofs.run.answer.Goals as goal

pub returns-in-Ok-clause-unread : goal.returns-in-Ok-clause-unread
returns-in-Ok-clause-unread g c =
    ⊎_elim inl (λ reads. inr (c.in-Ok.command, (c.in-Ok.ensures.reads, c.in-Ok.ensures.faults), reads))
    c.obey.ensures.unread

pub returns-in-Ok-clause-logged : goal.returns-in-Ok-clause-logged
returns-in-Ok-clause-logged g c =
    IfOk-weaker c.obey.result _ _
    (λ status is. inr (c.in-Ok.command, (c.in-Ok.ensures.reads, c.in-Ok.ensures.faults), is)) c.obey.ensures.logged

pub returns-in-Ok-clause-log_failed : goal.returns-in-Ok-clause-log_failed
returns-in-Ok-clause-log_failed g c =
    IfErr-weaker c.obey.result _ _
    (λ fault is. inr (c.in-Ok.command, (c.in-Ok.ensures.reads, c.in-Ok.ensures.faults), is)) c.obey.ensures.log_failed

pub returns-in-Err-Help-clause-logged : goal.returns-in-Err-Help-clause-logged
returns-in-Err-Help-clause-logged g c =
    let asks = rw c.in-Err-Help.field-0-is at c.in-Err-Help.ensures.faults in
    IfOk-weaker c.show_help.result _ _
    (λ status is. inl (refl, inl (asks, is.0, (c.in-Err-Help.text, is.1)))) c.show_help.ensures.shown

pub returns-in-Err-Help-clause-log_failed : goal.returns-in-Err-Help-clause-log_failed
returns-in-Err-Help-clause-log_failed g c =
    let asks = rw c.in-Err-Help.field-0-is at c.in-Err-Help.ensures.faults in
    IfErr-weaker c.show_help.result _ _
    (λ fault is. inl (refl, inr (asks, is.0, (c.in-Err-Help.text, is.1)))) c.show_help.ensures.failed

pub returns-in-Err-Usage-clause-usage : goal.returns-in-Err-Usage-clause-usage
returns-in-Err-Usage-clause-usage g c =
    inr (
      refl,
      (
        c.in-Err-Usage.text,
        any_front c.print_text.result _ _ _ c.print_text.ensures.whole c.print_text.ensures.front,
      ),
    )
