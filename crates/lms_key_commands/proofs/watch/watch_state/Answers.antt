use Rattle.std.proofs.Common.{◌<◌, ◌^◌, inr, subst}
use Rattle.std.proofs.lemmas.Result.{IfErr-weaker}
use Rattle.lms_commands.specs.Logs.{WorldCalls}
use Rattle.lms_world.proofs.Following.{both_follow, one_call, one_more}
use Rattle.lms_key_commands.specs.WitnessLogs.{LogsUnwitnessed}
use Rattle.lms_key_commands.proofs.watch.watch_state.Goals as goal

pub returns-in_err-lock-clause-follows : goal.returns-in_err-lock-clause-follows
returns-in_err-lock-clause-follows g c = one_call c.in_err-lock.ensures.logged c.in_err-lock.ensures.acts

pub returns-clause-follows : goal.returns-clause-follows
returns-clause-follows g c =
    one_more (both_follow (one_call c.in_ok-lock.ensures.logged c.in_ok-lock.ensures.acts)
    c.watch_locked-watched.ensures.follows)
    c.unlock.ensures.logged c.unlock.ensures.acts

pub returns-clause-log_failed : goal.returns-clause-log_failed
returns-clause-log_failed g c =
    let last = g.W.World.events c.watch_locked-watched.new.world in
    let fits : c.in-Some.number < 2 ^ 64 = search in
    IfErr-weaker c.watch_locked-watched.result _ _
    (λ fault is. inr (
      c.in-Some.number,
      (c.in-Some.ensures.some, fits),
      inr (
        last,
        subst (λ (log : WorldCalls). LogsUnwitnessed c.in-Some.number c.args.place.now c.args.output.now
            c.watch_locked-watched.new.output fault log last) c.in_ok-lock.ensures.logged is,
        c.unlock.ensures.logged,
      ),
    ))
    c.watch_locked-watched.ensures.log_failed
