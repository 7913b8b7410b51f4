use Rattle.std.proofs.Common.{rules}
use Rattle.lms_shared_book.proofs.desk.Desk.received.Goals as goal

pub returns : goal.returns
returns g c = search rules
