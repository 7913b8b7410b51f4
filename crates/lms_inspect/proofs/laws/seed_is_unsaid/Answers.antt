use Rattle.std.proofs.Common.{refl}
use Rattle.lms_inspect.proofs.laws.seed_is_unsaid.Goals as goal

pub returns : goal.returns
returns c = λ image seed witness. refl
