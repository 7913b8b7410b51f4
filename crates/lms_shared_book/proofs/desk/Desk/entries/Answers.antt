use Rattle.std.proofs.Common.{rules}
use Rattle.lms_shared_book.proofs.desk.Desk.entries.Goals as goal

pub returns : goal.returns
returns g c = search rules
