use Rattle.lms_spec.proofs.Places.{upper-same}
use Rattle.lms_spec.proofs.laws.same_signed_key.Goals as goal

pub returns : goal.returns
returns c = upper-same
