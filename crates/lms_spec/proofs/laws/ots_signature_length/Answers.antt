use Rattle.lms_spec.proofs.Lengths.{length-ots_signature}
use Rattle.lms_spec.proofs.laws.ots_signature_length.Goals as goal

pub returns : goal.returns
returns c = length-ots_signature
