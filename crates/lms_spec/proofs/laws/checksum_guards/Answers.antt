use Rattle.lms_spec.proofs.Guards.{guarded}
use Rattle.lms_spec.proofs.laws.checksum_guards.Goals as goal

pub returns : goal.returns
returns c = guarded
