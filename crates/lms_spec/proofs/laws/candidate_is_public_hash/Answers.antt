use Rattle.lms_spec.proofs.OneTime.{signature-leads_to}
use Rattle.lms_spec.proofs.laws.candidate_is_public_hash.Goals as goal

pub returns : goal.returns
returns c = signature-leads_to
