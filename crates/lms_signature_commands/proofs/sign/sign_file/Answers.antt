use Rattle.std.proofs.Common.{inr, subst₂, List, ℕ, ◌≡◌, ◌++◌}
use Rattle.lms_commands.specs.Logs.{WorldCalls}
use Rattle.lms_signature_commands.specs.SignLogs.{DeliversSignature, LogsUndelivered, index_line}
use Rattle.lms_commands.proofs.Logged.{two_calls}
use Rattle.std.proofs.lemmas.Result.{IfErr-weaker, on_ok_weaker}
use Rattle.lms_world.proofs.Following.{one_call, one_more, both_follow}
use Rattle.lms_signature_commands.proofs.sign.sign_file.Goals as goal

pub returns-clause-logged : goal.returns-clause-logged
returns-clause-logged g c =
    let before = c.args.output.now in
    let after = c.sign_locked-done.new.output in
    let randomizer = c.in_ok-randomizer.randomizer in
    let text = c.in_ok-message.message.items in
    let last = g.W.World.events c.sign_locked-done.new.world in
    let calls = two_calls _ _ _ _ _ c.in_ok-message.ensures.logged c.in_ok-lock.ensures.logged in
    on_ok_weaker c.sign_locked-done.result
    (λ is. (
      randomizer,
      text,
      last,
      c.in_ok-randomizer.ensures.read,
      subst₂ (λ (out : List ℕ) (log : WorldCalls).
          (delivers : DeliversSignature randomizer text out before log last)
          × (after ≡ before ++ index_line delivers.writes)) c.in_ok-out.ensures calls is,
      c.unlock.ensures.logged,
    ))
    c.sign_locked-done.ensures.logged

pub returns-clause-log_failed : goal.returns-clause-log_failed
returns-clause-log_failed g c =
    let before = c.args.output.now in
    let randomizer = c.in_ok-randomizer.randomizer in
    let text = c.in_ok-message.message.items in
    let last = g.W.World.events c.sign_locked-done.new.world in
    let calls = two_calls _ _ _ _ _ c.in_ok-message.ensures.logged c.in_ok-lock.ensures.logged in
    IfErr-weaker c.sign_locked-done.result _ _
    (λ fault is. inr (inr (inr (inr (
      randomizer,
      text,
      last,
      c.in_ok-randomizer.ensures.read,
      subst₂ (λ (out : List ℕ) (log : WorldCalls). LogsUndelivered randomizer text out before
          c.sign_locked-done.new.output fault log last) c.in_ok-out.ensures calls is,
      c.unlock.ensures.logged,
    )))))
    c.sign_locked-done.ensures.log_failed

pub returns-clause-follows : goal.returns-clause-follows
returns-clause-follows g c =
    one_more (both_follow (one_more (one_call c.in_ok-message.ensures.logged c.in_ok-message.ensures.acts)
    c.in_ok-lock.ensures.logged c.in_ok-lock.ensures.acts)
    c.sign_locked-done.ensures.follows)
    c.unlock.ensures.logged c.unlock.ensures.acts

pub returns-in_err-message-clause-follows : goal.returns-in_err-message-clause-follows
returns-in_err-message-clause-follows g c = one_call c.in_err-message.ensures.logged c.in_err-message.ensures.acts

pub returns-in_err-lock-clause-follows : goal.returns-in_err-lock-clause-follows
returns-in_err-lock-clause-follows g c = one_more (one_call c.in_ok-message.ensures.logged c.in_ok-message.ensures.acts)
    c.in_err-lock.ensures.logged c.in_err-lock.ensures.acts
