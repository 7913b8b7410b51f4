use Rattle.std.proofs.Common.{inr, subst₂, List, ℕ}
use Rattle.std.proofs.lemmas.Result.{IfErr-weaker, on_ok_weaker}
use Rattle.lms_key_commands.specs.KeygenLogs.{LogsUnmade, PublishesKey}
use Rattle.lms_commands.specs.Logs.{WorldCalls}
use Rattle.lms_world.proofs.Following.{one_call, one_more, both_follow}
use Rattle.lms_key_commands.proofs.keygen.make_key.Goals as goal

pub returns-clause-logged : goal.returns-clause-logged
returns-clause-logged g c =
    let last = g.W.World.events c.make_locked-made.new.world in
    on_ok_weaker c.make_locked-made.result
    (λ is. (
      last,
      subst₂ (λ (public : List ℕ) (log : WorldCalls). PublishesKey c.args.key public c.args.output.now log last)
          c.in_ok-file.ensures c.in_ok-lock.ensures.logged is.0,
      is.1,
      c.unlock.ensures.logged,
    ))
    c.make_locked-made.ensures.logged

pub returns-clause-log_failed : goal.returns-clause-log_failed
returns-clause-log_failed g c =
    let last = g.W.World.events c.make_locked-made.new.world in
    IfErr-weaker c.make_locked-made.result _ _
    (λ fault is. inr (inr (
      last,
      subst₂ (λ (public : List ℕ) (log : WorldCalls).
          LogsUnmade c.args.key public c.args.output.now c.make_locked-made.new.output fault log last)
          c.in_ok-file.ensures c.in_ok-lock.ensures.logged is,
      c.unlock.ensures.logged,
    )))
    c.make_locked-made.ensures.log_failed

pub returns-clause-follows : goal.returns-clause-follows
returns-clause-follows g c =
    one_more (both_follow (one_call c.in_ok-lock.ensures.logged c.in_ok-lock.ensures.acts)
    c.make_locked-made.ensures.follows) c.unlock.ensures.logged c.unlock.ensures.acts

pub returns-in_err-lock-clause-follows : goal.returns-in_err-lock-clause-follows
returns-in_err-lock-clause-follows g c = one_call c.in_err-lock.ensures.logged c.in_err-lock.ensures.acts
