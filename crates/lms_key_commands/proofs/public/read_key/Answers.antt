use Rattle.std.proofs.Common.{inr, refl, subst}
use Rattle.lms_commands.specs.Logs.{LeavesState, LogsUnopened, WorldCalls, state_in}
use Rattle.lms_world.proofs.Following.{both_follow, one_call, one_more}
use Rattle.lms_key_commands.proofs.public.read_key.Goals as goal

pub returns-in-Ok-clause-logged : goal.returns-in-Ok-clause-logged
returns-in-Ok-clause-logged g c =
    let read = state_in c.in-Ok.image in
    let last = g.W.World.events c.read_state-read.new.world in (
      read,
      refl,
      record {
        until_read = last;
        reads = subst (λ (log : WorldCalls). LeavesState read log last) c.in_ok-lock.ensures.logged
            c.in-Ok.ensures.logged;
        unlocks = c.unlock.ensures.logged;
      },
    )

pub returns-in-Err-clause-unread : goal.returns-in-Err-clause-unread
returns-in-Err-clause-unread g c =
    let last = g.W.World.events c.read_state-read.new.world in
    inr (
      last,
      subst (λ (log : WorldCalls). LogsUnopened c.in-Err.fault log last) c.in_ok-lock.ensures.logged
          c.in-Err.ensures.unopened,
      c.unlock.ensures.logged,
    )

pub returns-in-Ok-clause-follows : goal.returns-in-Ok-clause-follows
returns-in-Ok-clause-follows g c =
    one_more
    (both_follow (one_call c.in_ok-lock.ensures.logged c.in_ok-lock.ensures.acts) c.read_state-read.ensures.follows)
    c.unlock.ensures.logged c.unlock.ensures.acts

pub returns-in-Err-clause-follows : goal.returns-in-Err-clause-follows
returns-in-Err-clause-follows g c =
    one_more
    (both_follow (one_call c.in_ok-lock.ensures.logged c.in_ok-lock.ensures.acts) c.read_state-read.ensures.follows)
    c.unlock.ensures.logged c.unlock.ensures.acts

pub returns-in_err-lock-clause-follows : goal.returns-in_err-lock-clause-follows
returns-in_err-lock-clause-follows g c = one_call c.in_err-lock.ensures.logged c.in_err-lock.ensures.acts
