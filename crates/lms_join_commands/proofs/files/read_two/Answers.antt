use Rattle.std.proofs.Common.{inl, inr}
use Rattle.lms_world.proofs.Following.{one_call, one_more}
use Rattle.lms_commands.proofs.Failing.{handed_on}
use Rattle.lms_commands.proofs.Logged.{two_calls}
use Rattle.lms_join_commands.proofs.files.read_two.Goals as goal

pub returns-clause-logged : goal.returns-clause-logged
returns-clause-logged g c = two_calls _ _ _ _ _ c.in_ok-one.ensures.logged c.in_ok-two.ensures.logged

pub returns-in_err-one-clause-unread : goal.returns-in_err-one-clause-unread
returns-in_err-one-clause-unread g c =
    handed_on _ _ _ c.from_residual.ensures.1 (c.in_err-one.ensures.refused, inl c.in_err-one.ensures.logged)

pub returns-in_err-two-clause-unread : goal.returns-in_err-two-clause-unread
returns-in_err-two-clause-unread g c =
    let calls = two_calls _ _ _ _ _ c.in_ok-one.ensures.logged c.in_err-two.ensures.logged in
    handed_on _ _ _ c.from_residual-in_err-two.ensures.1
    (c.in_err-two.ensures.refused, inr (c.in_ok-one.one.items, calls))

pub returns-in_err-one-clause-follows : goal.returns-in_err-one-clause-follows
returns-in_err-one-clause-follows g c = one_call c.in_err-one.ensures.logged c.in_err-one.ensures.acts

pub returns-in_err-two-clause-follows : goal.returns-in_err-two-clause-follows
returns-in_err-two-clause-follows g c =
    one_more (one_call c.in_ok-one.ensures.logged c.in_ok-one.ensures.acts)
    c.in_err-two.ensures.logged c.in_err-two.ensures.acts

pub returns-clause-follows : goal.returns-clause-follows
returns-clause-follows g c =
    one_more (one_call c.in_ok-one.ensures.logged c.in_ok-one.ensures.acts)
    c.in_ok-two.ensures.logged c.in_ok-two.ensures.acts
