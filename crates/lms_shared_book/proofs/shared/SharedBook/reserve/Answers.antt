use Rattle.std.proofs.Common.{◌∙◌, ap}
use Rattle.lms_shared_book.specs.Desks.{SharedState}
use Rattle.lms_shared_book.proofs.shared.SharedBook.reserve.Goals as goal

pub returns-clause-reserves : goal.returns-clause-reserves
returns-clause-reserves g c =
    let key = c.reserve.ensures.key ∙ ap (λ (s : SharedState). s.book.key) c.self.view_is in
    let found = c.reserve.ensures.found c.self.inside.desks
    (c.self.invariant.0, c.self.invariant.1, c.self.invariant.2) in
    (_, _, key, rw c.self.view_is at found, c.reserve.ensures.reserves)
