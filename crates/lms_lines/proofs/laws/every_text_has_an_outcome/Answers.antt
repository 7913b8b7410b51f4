use Rattle.lms_lines.proofs.Judging.{some-outcome}
use Rattle.lms_lines.proofs.laws.every_text_has_an_outcome.Goals as goal

pub returns : goal.returns
returns c = some-outcome
