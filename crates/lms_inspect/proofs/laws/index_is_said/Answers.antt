use Rattle.lms_inspect.proofs.SaidIndices.{index_is_said}
use Rattle.lms_inspect.proofs.laws.index_is_said.Goals as goal

pub returns : goal.returns
returns c = index_is_said
