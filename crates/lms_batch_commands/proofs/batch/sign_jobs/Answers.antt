use Rattle.std.proofs.Common.{inr, subst}
use Rattle.std.proofs.lemmas.Result.{IfErr-weaker, on_ok_weaker}
use Rattle.lms_batch_commands.specs.BatchLogs.{LogsAnswers, LogsUnanswered}
use Rattle.lms_commands.specs.Logs.{WorldCalls}
use Rattle.lms_world.proofs.Following.{one_call, one_more, both_follow}
use Rattle.lms_batch_commands.proofs.batch.sign_jobs.Goals as goal

pub returns-clause-logged : goal.returns-clause-logged
returns-clause-logged g c =
    let input = g.I.Read.remaining c.args.input.now in
    let rest = g.I.Read.remaining c.sign_locked-done.new.input in
    let last = g.W.World.events c.sign_locked-done.new.world in
    on_ok_weaker c.sign_locked-done.result
    (λ is. (
      last,
      is.0,
      subst (λ (log : WorldCalls).
          LogsAnswers input rest c.args.output.now c.sign_locked-done.new.output is.0 is.0 log last)
          c.in_ok-lock.ensures.logged is.1,
      c.unlock.ensures.logged,
      (c.in-Some.workers, c.in-Some.ensures.some),
    ))
    c.sign_locked-done.ensures.logged

pub returns-clause-log_failed : goal.returns-clause-log_failed
returns-clause-log_failed g c =
    let input = g.I.Read.remaining c.args.input.now in
    let rest = g.I.Read.remaining c.sign_locked-done.new.input in
    let last = g.W.World.events c.sign_locked-done.new.world in
    IfErr-weaker c.sign_locked-done.result _ _
    (λ fault is. inr (inr (
      last,
      subst
          (λ (log : WorldCalls).
          LogsUnanswered input rest c.args.output.now c.sign_locked-done.new.output fault log last)
          c.in_ok-lock.ensures.logged is,
      c.unlock.ensures.logged,
      (c.in-Some.workers, c.in-Some.ensures.some),
    )))
    c.sign_locked-done.ensures.log_failed

pub returns-clause-follows : goal.returns-clause-follows
returns-clause-follows g c =
    one_more (both_follow (one_call c.in_ok-lock.ensures.logged c.in_ok-lock.ensures.acts)
    c.sign_locked-done.ensures.follows) c.unlock.ensures.logged c.unlock.ensures.acts

pub returns-in_err-lock-clause-follows : goal.returns-in_err-lock-clause-follows
returns-in_err-lock-clause-follows g c = one_call c.in_err-lock.ensures.logged c.in_err-lock.ensures.acts
