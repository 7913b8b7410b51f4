use Rattle.std.proofs.Common.{refl}
use Rattle.lms_spec.specs.Profile.{derived}
use Rattle.lms_spec.proofs.laws.worked_children.Goals as goal

pub returns : goal.returns
unfolding derived
returns c = record { seed = refl; id = refl; randomizer = refl }
