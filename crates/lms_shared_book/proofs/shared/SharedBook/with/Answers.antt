use Rattle.std.proofs.Common.{List, ◌∙◌, ap, subst}
use Rattle.lms_book.specs.declared.history.Entry.{Entry}
use Rattle.lms_shared_book.specs.Desks.{SharedState}
use Rattle.lms_shared_book.specs.Shared.{IsAfter}
use Rattle.lms_shared_book.proofs.shared.SharedBook.with.Goals as goal

pub returns : goal.returns
returns g c =
    let book = c.counted.inside.book in
    let key = c.counted.invariant.4 ∙ ap (λ (s : SharedState). s.book.key) c.self.view_is in
    let after = subst (λ (s : SharedState). (entries : List Entry) × IsAfter s.book entries book) c.self.view_is
    c.counted.invariant.5 in
    (book, key, c.reservations.ensures.in_order, after, (_, c.f.ensures, c.reservations.ensures.all))
