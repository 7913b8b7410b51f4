use Rattle.std.proofs.Common.{inr, subst}
use Rattle.std.proofs.lemmas.Result.{IfErr-weaker, on_ok_weaker}
use Rattle.lms_commands.specs.Logs.{WorldCalls}
use Rattle.lms_key_commands.specs.InfoLogs.{LogsUndescribed, ReadsToPrint}
use Rattle.lms_world.proofs.Following.{one_call, one_more, both_follow}
use Rattle.lms_key_commands.proofs.info.describe.Goals as goal

pub returns-clause-logged : goal.returns-clause-logged
returns-clause-logged g c =
    let last = g.W.World.events c.describe_locked-described.new.world in
    on_ok_weaker c.describe_locked-described.result
    (λ is. (
      is.0,
      last,
      subst (λ (log : WorldCalls). ReadsToPrint is.0 c.args.output.now log last) c.in_ok-lock.ensures.logged is.1,
      is.2,
      c.unlock.ensures.logged,
    ))
    c.describe_locked-described.ensures.logged

pub returns-clause-log_failed : goal.returns-clause-log_failed
returns-clause-log_failed g c =
    let last = g.W.World.events c.describe_locked-described.new.world in
    IfErr-weaker c.describe_locked-described.result _ _
    (λ fault is. inr (
      last,
      subst (λ (log : WorldCalls).
          LogsUndescribed c.args.output.now c.describe_locked-described.new.output fault log last)
          c.in_ok-lock.ensures.logged is,
      c.unlock.ensures.logged,
    ))
    c.describe_locked-described.ensures.log_failed

pub returns-in_err-lock-clause-follows : goal.returns-in_err-lock-clause-follows
returns-in_err-lock-clause-follows g c = one_call c.in_err-lock.ensures.logged c.in_err-lock.ensures.acts

pub returns-clause-follows : goal.returns-clause-follows
returns-clause-follows g c =
    one_more (both_follow (one_call c.in_ok-lock.ensures.logged c.in_ok-lock.ensures.acts)
    c.describe_locked-described.ensures.follows)
    c.unlock.ensures.logged c.unlock.ensures.acts
