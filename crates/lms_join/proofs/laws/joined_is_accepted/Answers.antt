use Rattle.lms_join.proofs.Joins.{joined-accepted}
use Rattle.lms_join.proofs.laws.joined_is_accepted.Goals as goal

pub returns : goal.returns
returns c = joined-accepted
