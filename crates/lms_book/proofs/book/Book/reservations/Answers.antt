use Rattle.std.proofs.Common.{ℕ, subst}
use Rattle.lms_image.specs.Image.{HasImage}
use Rattle.lms_book.specs.History.{burnt_after}
use Rattle.lms_book.specs.States.{BookState}
use Rattle.lms_book.specs.Books.{IsInOrder}
use Rattle.lms_book.proofs.InOrder.{in_order}
use Rattle.lms_book.proofs.book.Book.reservations.Goals as goal

pub returns-clause-in_order : goal.returns-clause-in_order
returns-clause-in_order g c =
    let r = c.self.inside.reservations in
    let counted = subst (λ (at : ℕ). HasImage r.key at r.openings (burnt_after r.burnt r.history))
    c.counter-counter.ensures.counter c.counter-counter.ensures.counted in
    subst (λ (book : BookState). IsInOrder book) c.self.view_is (in_order _ counted c.self.invariant.safe)
