use Rattle.lms_spec.proofs.TreeSignatures.{tree-accepts}
use Rattle.lms_spec.proofs.laws.lms_signature_accepted.Goals as goal

pub returns : goal.returns
returns c = tree-accepts
