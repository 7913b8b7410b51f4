use Rattle.lms_spec.proofs.Places.{index-same}
use Rattle.lms_spec.proofs.laws.different_places.Goals as goal

pub returns : goal.returns
returns c = index-same
