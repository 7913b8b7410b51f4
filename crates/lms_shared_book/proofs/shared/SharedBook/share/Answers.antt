use Rattle.std.proofs.Common.{◌≡◌, ◌∙◌, ap, arith}
use Rattle.lms_hss.proofs.Keys.{capacity-limit}
use Rattle.lms_book.specs.States.{ReservationsState}
use Rattle.lms_book.specs.History.{given_of, burnt_of}
use Rattle.lms_shared_book.proofs.DeskSums.{given_le, burnt_le}
use Rattle.lms_shared_book.proofs.shared.SharedBook.share.Goals as goal

pub sums_in-given-requires-clause-given : goal.sums_in-given-requires-clause-given
sums_in-given-requires-clause-given g c =
    let counted = c.reservations-reservations.ensures.in_order.counted in
    let history : c.history-history.result.now ≡ c.args.book.history =
    c.history-history.ensures ∙ ap (λ (s : ReservationsState). s.history) c.reservations-reservations.ensures.all in
    omega (
      arith,
      ap given_of history,
      given_le c.args.book.history,
      counted.within,
      capacity-limit c.args.book.key counted.admitted,
    )

pub sums_in-given-requires-clause-burnt : goal.sums_in-given-requires-clause-burnt
sums_in-given-requires-clause-burnt g c =
    let counted = c.reservations-reservations.ensures.in_order.counted in
    let history : c.history-history.result.now ≡ c.args.book.history =
    c.history-history.ensures ∙ ap (λ (s : ReservationsState). s.history) c.reservations-reservations.ensures.all in
    omega (
      arith,
      ap burnt_of history,
      burnt_le c.args.book.history,
      counted.within,
      capacity-limit c.args.book.key counted.admitted,
    )
