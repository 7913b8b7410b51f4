use Rattle.lms_spec.proofs.Parts.{accepted-by-parts}
use Rattle.lms_spec.proofs.laws.accepted_by_parts.Goals as goal

pub returns : goal.returns
returns c = accepted-by-parts
