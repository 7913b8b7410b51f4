use Rattle.lms_spec.proofs.HierarchyParts.{length-hss}
use Rattle.lms_spec.proofs.laws.hss_signature_length.Goals as goal

pub returns : goal.returns
returns c = length-hss
