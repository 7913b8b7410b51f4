use Rattle.lms_spec.proofs.Sets.{columns-follow}
use Rattle.lms_spec.proofs.laws.columns_follow.Goals as goal

pub returns : goal.returns
returns c = columns-follow
