use Rattle.lms_spec.proofs.Lengths.{length-public_key}
use Rattle.lms_spec.proofs.laws.lms_public_key_length.Goals as goal

pub returns : goal.returns
returns c = length-public_key
