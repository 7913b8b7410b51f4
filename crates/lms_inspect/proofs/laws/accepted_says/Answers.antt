use Rattle.lms_inspect.proofs.Accepted.{accepted_says}
use Rattle.lms_inspect.proofs.laws.accepted_says.Goals as goal

pub returns : goal.returns
returns c = accepted_says
