use Rattle.lms_spec.proofs.Hierarchies.{hss-accepts}
use Rattle.lms_spec.proofs.laws.hss_signature_accepted.Goals as goal

pub returns : goal.returns
returns c = hss-accepts
