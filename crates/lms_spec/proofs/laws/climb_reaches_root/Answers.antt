use Rattle.lms_spec.proofs.Climbs.{climb-root}
use Rattle.lms_spec.proofs.laws.climb_reaches_root.Goals as goal

pub returns : goal.returns
returns c = climb-root
