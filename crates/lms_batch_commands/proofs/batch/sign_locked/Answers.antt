use Rattle.std.proofs.Common.{inl, inr, refl, sym}
use Rattle.std.proofs.lemmas.Result.{IfErr-weaker, on_ok_weaker}
use Rattle.lms_batch_commands.proofs.Batches.{log_unprinted}
use Rattle.lms_commands.proofs.Failing.{handed_on}
use Rattle.lms_world.proofs.Following.{one_more}
use Rattle.lms_batch_commands.proofs.batch.sign_locked.Goals as goal

pub returns-clause-logged : goal.returns-clause-logged
returns-clause-logged g c =
    on_ok_weaker c.print_answers.result
    (λ all. (
      c.in_ok-signed.signed.asked,
      (
        c.in_ok-signed.signed.batch,
        record {
          until_signed = g.W.World.events c.sign_stored.new.world;
          signs = c.in_ok-signed.ensures.logged.0;
          prints = c.begin_printing.ensures.logged;
        },
        sym all.0,
        c.in_ok-signed.ensures.logged.1,
        all.1,
      ),
    ))
    c.print_answers.ensures.all

pub returns-clause-log_failed : goal.returns-clause-log_failed
returns-clause-log_failed g c =
    IfErr-weaker c.print_answers.result _ _
    (λ fault is. inr (log_unprinted (g.I.Read.remaining c.args.input.now)
    (g.I.Read.remaining c.sign_stored.new.input) c.args.output.now c.print_answers.new.output
    c.in_ok-signed.signed _ _
    (record {
      until_signed = g.W.World.events c.sign_stored.new.world;
      signs = c.in_ok-signed.ensures.logged.0;
      prints = c.begin_printing.ensures.logged;
    })
    c.in_ok-signed.ensures.logged.1 fault is))
    c.print_answers.ensures.failed

pub returns-clause-follows : goal.returns-clause-follows
returns-clause-follows g c =
    one_more c.sign_stored.ensures.follows c.begin_printing.ensures.logged c.begin_printing.ensures.acts

pub returns-in_err-signed-clause-log_failed : goal.returns-in_err-signed-clause-log_failed
returns-in_err-signed-clause-log_failed g c =
    handed_on _ _ _ c.from_residual.ensures.1 (inl (c.in_err-signed.ensures.log_failed, refl))
