use Rattle.lms_spec.proofs.OneTime.{candidate-one}
use Rattle.lms_spec.proofs.laws.one_candidate.Goals as goal

pub returns : goal.returns
returns c = candidate-one
