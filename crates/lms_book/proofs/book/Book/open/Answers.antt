use Rattle.std.proofs.Common.{rules}
use Rattle.lms_book.proofs.book.Book.open.Goals as goal

pub invariant_of-result : goal.invariant_of-result
invariant_of-result g c = search rules
