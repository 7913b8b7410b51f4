use Rattle.lms_world.proofs.Outcomes.{holds_what_is_logged}
use Rattle.lms_world.proofs.laws.holds_what_is_logged.Goals as goal

pub returns : goal.returns
returns c = holds_what_is_logged
