use Rattle.std.proofs.Common.{subst, sym}
use Rattle.lms_world.proofs.Following.{one_call, one_more}
use Rattle.lms_commands.specs.Logs.{LogsUnopened}
use Rattle.lms_commands.proofs.Logged.{state_read, two_calls, unopened}
use Rattle.lms_commands.proofs.files.open_state.Goals as goal

pub returns-in-Ok-clause-logged : goal.returns-in-Ok-clause-logged
returns-in-Ok-clause-logged g c =
    (_, state_read _ _ c.in-Ok.ensures.found c.in-Ok.ensures.counted, c.in_ok-store.ensures.logged)

pub returns-in-Ok-clause-follows : goal.returns-in-Ok-clause-follows
returns-in-Ok-clause-follows g c = one_call c.in_ok-store.ensures.logged c.in_ok-store.ensures.acts

pub returns-in-Err-clause-follows : goal.returns-in-Err-clause-follows
returns-in-Err-clause-follows g c = one_more (one_call c.in_ok-store.ensures.logged c.in_ok-store.ensures.acts)
    c.put_back.ensures.logged c.put_back.ensures.acts

pub returns-in_err-store-clause-follows : goal.returns-in_err-store-clause-follows
returns-in_err-store-clause-follows g c = one_call c.in_err-store.ensures.logged c.in_err-store.ensures.acts

pub returns-in-Err-clause-unopened : goal.returns-in-Err-clause-unopened
returns-in-Err-clause-unopened g c =
    let calls = two_calls _ _ _ _ _ c.in_ok-store.ensures.logged c.put_back.ensures.logged in
    let fails = unopened c.in-Err.fault _ _ _ _ c.in-Err.ensures.err calls in
    subst (λ fault. LogsUnopened fault (g.W.World.events c.args.world.now) (g.W.World.events c.put_back.new.self))
    (sym c.from.ensures) fails
