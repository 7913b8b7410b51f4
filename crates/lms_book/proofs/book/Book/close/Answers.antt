use Rattle.std.proofs.Common.{rules}
use Rattle.lms_book.proofs.book.Book.close.Goals as goal

pub returns-clause-store : goal.returns-clause-store
returns-clause-store g c = search rules
