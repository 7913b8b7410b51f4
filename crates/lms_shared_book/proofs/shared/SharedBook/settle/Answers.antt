use Rattle.std.proofs.Common.{◌∙◌, ap}
use Rattle.lms_shared_book.specs.Desks.{SharedState, plus, sums_of, total}
use Rattle.lms_shared_book.proofs.Reserved.{settled_sums}
use Rattle.lms_shared_book.proofs.shared.SharedBook.settle.Goals as goal

pub returns-clause-counted : goal.returns-clause-counted
returns-clause-counted g c =
    settled_sums g.E.BookLedger.book (total c.args.desks.items) c.into_book.result c.into_book.ensures.settled
    ∙ ap (λ (s : SharedState). plus (sums_of s.book.history) (total c.args.desks.items)) c.self.view_is
