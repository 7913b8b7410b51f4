use Rattle.std.proofs.Common.{inl, inr, subst, sym}
use Rattle.lms_commands.specs.Logs.{LogsUnopened, WorldCalls}
use Rattle.lms_commands.specs.Watching.{LogsUnwatched}
use Rattle.lms_world.proofs.Following.{both_follow, one_more, then_nothing}
use Rattle.lms_commands.proofs.witness.open_watched.Goals as goal

pub returns-in-Ok-admit-clause-follows : goal.returns-in-Ok-admit-clause-follows
returns-in-Ok-admit-clause-follows g c = both_follow c.in_ok-witness.ensures.follows c.in-Ok.ensures.follows

pub returns-in-Err-clause-follows : goal.returns-in-Err-clause-follows
returns-in-Err-clause-follows g c =
    then_nothing (both_follow c.in_ok-witness.ensures.follows c.in-Err.ensures.follows)
    c.discard.ensures.unlogged c.discard.ensures.same

pub returns-in-Err-admit-clause-follows : goal.returns-in-Err-admit-clause-follows
returns-in-Err-admit-clause-follows g c =
    then_nothing
    (one_more (both_follow c.in_ok-witness.ensures.follows c.in-Ok.ensures.follows)
    c.put_back.ensures.logged c.put_back.ensures.acts)
    c.discard-in-Err-admit.ensures.unlogged c.discard-in-Err-admit.ensures.same

pub returns-in-Err-clause-unopened : goal.returns-in-Err-clause-unopened
returns-in-Err-clause-unopened g c =
    let old = g.W.World.events c.args.world.now in
    let never = subst (λ (log : WorldCalls).
    LogsUnopened c.in-Err.fault log (g.W.World.events c.open_state.new.world)) c.in_ok-witness.ensures.watched
    c.in-Err.ensures.unopened in
    subst (λ (log : WorldCalls). LogsUnwatched c.in-Err.fault old log) (sym c.discard.ensures.unlogged)
    (inr (inr (inl (_, never))))
