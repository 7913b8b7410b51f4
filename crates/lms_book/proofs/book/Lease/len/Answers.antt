use Rattle.std.proofs.Common.{rules}
use Rattle.lms_book.proofs.book.Lease.len.Goals as goal

pub returns-clause-len : goal.returns-clause-len
returns-clause-len c = search rules

pub returns-clause-some : goal.returns-clause-some
returns-clause-some c = search rules

pub returns-clause-at_most : goal.returns-clause-at_most
returns-clause-at_most c = search rules
