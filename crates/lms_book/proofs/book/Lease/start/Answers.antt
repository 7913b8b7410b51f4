use Rattle.std.proofs.Common.{rules}
use Rattle.lms_book.proofs.book.Lease.start.Goals as goal

pub returns-clause-start : goal.returns-clause-start
returns-clause-start c = search rules
