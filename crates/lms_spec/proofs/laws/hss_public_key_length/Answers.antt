use Rattle.lms_spec.proofs.HierarchyParts.{length-hss_public_key}
use Rattle.lms_spec.proofs.laws.hss_public_key_length.Goals as goal

pub returns : goal.returns
returns c = length-hss_public_key
