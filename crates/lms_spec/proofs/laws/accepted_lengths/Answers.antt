use Rattle.lms_spec.proofs.Lengths.{length-lms}
use Rattle.lms_spec.proofs.laws.accepted_lengths.Goals as goal

pub returns : goal.returns
returns c = length-lms
