use Rattle.lms_spec.proofs.Lengths.{length-lms_signature}
use Rattle.lms_spec.proofs.laws.lms_signature_length.Goals as goal

pub returns : goal.returns
returns c = length-lms_signature
