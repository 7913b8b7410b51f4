use Rattle.lms_join.proofs.Joins.{joined-exactly}
use Rattle.lms_join.proofs.laws.joined_is_exact.Goals as goal

pub returns : goal.returns
returns c = joined-exactly
