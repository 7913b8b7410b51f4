use Rattle.lms_spec.proofs.HierarchyParts.{through-parts}
use Rattle.lms_spec.proofs.laws.through_parts.Goals as goal

pub returns : goal.returns
returns c = through-parts
