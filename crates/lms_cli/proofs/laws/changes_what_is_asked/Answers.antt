use Rattle.lms_cli.proofs.ChangesInMemory.{changes_what_is_asked}
use Rattle.lms_cli.proofs.laws.changes_what_is_asked.Goals as goal

pub returns : goal.returns
returns c = changes_what_is_asked
