use Rattle.lms_world.proofs.Following.{both_follow}
use Rattle.lms_commands.proofs.witness.watch.Goals as goal

pub returns-in_err-draft-in-Some-clause-follows : goal.returns-in_err-draft-in-Some-clause-follows
returns-in_err-draft-in-Some-clause-follows g c =
    both_follow c.in_ok-text.ensures.follows c.in_err-draft-in-Some.ensures.follows

pub returns-in_ok-draft-in-Some-clause-follows : goal.returns-in_ok-draft-in-Some-clause-follows
returns-in_ok-draft-in-Some-clause-follows g c =
    both_follow c.in_ok-text.ensures.follows c.in_ok-draft-in-Some.ensures.follows
