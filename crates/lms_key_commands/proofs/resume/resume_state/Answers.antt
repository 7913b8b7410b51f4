use Rattle.std.proofs.Common.{◌<◌, ◌^◌, inr, subst}
use Rattle.std.proofs.lemmas.Result.{IfErr-weaker}
use Rattle.lms_commands.specs.Logs.{WorldCalls}
use Rattle.lms_world.proofs.Following.{one_call, one_more, both_follow}
use Rattle.lms_key_commands.specs.ResumeLogs.{LogsUnresumed}
use Rattle.lms_key_commands.proofs.resume.resume_state.Goals as goal

pub returns-clause-log_failed : goal.returns-clause-log_failed
returns-clause-log_failed g c =
    let last = g.W.World.events c.resume_locked-resumed.new.world in
    let fits : c.in-Some.end < 2 ^ 64 = search in
    IfErr-weaker c.resume_locked-resumed.result _ _
    (λ fault is. inr (
      c.in-Some.end,
      (c.in-Some.ensures.some, fits),
      inr (
        last,
        subst (λ (log : WorldCalls).
            LogsUnresumed c.in-Some.end c.args.output.now c.resume_locked-resumed.new.output fault log last)
            c.in_ok-lock.ensures.logged is,
        c.unlock.ensures.logged,
      ),
    ))
    c.resume_locked-resumed.ensures.log_failed

pub returns-in_err-lock-clause-follows : goal.returns-in_err-lock-clause-follows
returns-in_err-lock-clause-follows g c = one_call c.in_err-lock.ensures.logged c.in_err-lock.ensures.acts

pub returns-clause-follows : goal.returns-clause-follows
returns-clause-follows g c =
    one_more (both_follow (one_call c.in_ok-lock.ensures.logged c.in_ok-lock.ensures.acts)
    c.resume_locked-resumed.ensures.follows)
    c.unlock.ensures.logged c.unlock.ensures.acts
