use Rattle.std.proofs.Common.{rules}
use Rattle.lms_shared_book.specs.Desks.{total}
use Rattle.lms_shared_book.proofs.Reserved.{settled}
use Rattle.lms_shared_book.proofs.counted.CountedBook.into_book.Goals as goal

pub returns-clause-settled : goal.returns-clause-settled
returns-clause-settled g c =
    settled g.E.BookLedger.book (total c.args.desks.items) c.self.inside.book c.self.invariant.5.0
    c.self.invariant.5.1 (search rules)
