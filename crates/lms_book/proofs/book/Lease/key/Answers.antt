use Rattle.std.proofs.Common.{rules}
use Rattle.lms_book.proofs.book.Lease.key.Goals as goal

pub returns : goal.returns
returns c = search rules
