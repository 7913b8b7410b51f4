use Rattle.std.proofs.Common.{subst, sym, ◌∙◌, ap, arith}
use Rattle.lms_hss.proofs.Keys.{capacity-limit}
use Rattle.lms_shared_book.specs.Desks.{Counts, Sums, SharesState, plus, sums, sums_of}
use Rattle.lms_shared_book.specs.Shared.{IsAfter}
use Rattle.lms_book.specs.Books.{ReservesInOrder}
use Rattle.lms_shared_book.proofs.DeskSums.{given_le, burnt_le}
use Rattle.lms_book.proofs.InOrder.{order_stays, reserved_in_order}
use Rattle.lms_book.specs.States.{BookState}
use Rattle.lms_shared_book.proofs.Reserved.{after_one_more, behind, counts, lease_key, more_sums}
use Rattle.lms_shared_book.proofs.counted.CountedBook.reserve.Goals as goal

pub returns-clause-found : goal.returns-clause-found
returns-clause-found g c = λ desks parts.
    behind g.E.BookLedger.book desks c.args.desk.now c.self.inside.shares.counted c.self.inside.totals c.args.self.now
    c.self.invariant.5.0
    (subst (λ (b : BookState). IsAfter g.E.BookLedger.book c.self.invariant.5.0 b) c.self.view_is c.self.invariant.5.1)
    (c.self.invariant.1 ∙ ap (λ (b : BookState). sums_of b.history) c.self.view_is) c.self.invariant.3
    (λ one. c.audit.ensures.alone
    (omega (arith, parts.0, one), omega (arith, parts.1, one), omega (arith, parts.2, one)))

pub count-requires-clause-received : goal.count-requires-clause-received
count-requires-clause-received g c =
    let new = c.reserve-answer.new.self in
    let order = order_stays c.args.n c.self.inside.book c.reserve-answer.result new c.requires.some
    c.reserve-answer.ensures.opening c.self.invariant.0 c.reserve-answer.ensures.reserves in
    let all = more_sums c.args.n c.self.inside.book c.reserve-answer.result new _ _
    (c.audit.ensures.totals ∙ c.self.invariant.1) c.gains_of-entries.ensures c.reserve-answer.ensures.reserves in
    omega (
      arith,
      ap (λ (s : Sums). s.received) all,
      given_le new.history,
      order.counted.within,
      capacity-limit new.key order.counted.admitted,
    )

pub count-requires-clause-burnt : goal.count-requires-clause-burnt
count-requires-clause-burnt g c =
    let new = c.reserve-answer.new.self in
    let order = order_stays c.args.n c.self.inside.book c.reserve-answer.result new c.requires.some
    c.reserve-answer.ensures.opening c.self.invariant.0 c.reserve-answer.ensures.reserves in
    let all = more_sums c.args.n c.self.inside.book c.reserve-answer.result new _ _
    (c.audit.ensures.totals ∙ c.self.invariant.1) c.gains_of-entries.ensures c.reserve-answer.ensures.reserves in
    omega (
      arith,
      ap (λ (s : Sums). s.burnt) all,
      burnt_le new.history,
      order.counted.within,
      capacity-limit new.key order.counted.admitted,
    )

pub returns-clause-reserves : goal.returns-clause-reserves
returns-clause-reserves g c =
    subst (λ book. ReservesInOrder c.args.n book c.reserve-answer.result c.reserve-answer.new.self) c.self.view_is
    (reserved_in_order c.args.n c.self.inside.book c.reserve-answer.result c.reserve-answer.new.self c.requires.some
    c.self.invariant.0 c.reserve-answer.ensures.opening c.reserve-answer.ensures.reserves)

pub returns-clause-desk : goal.returns-clause-desk
returns-clause-desk g c =
    let gain = c.gains_of-entries.result in
    let more = sums gain.0 gain.1 gain.2 in
    let added = c.count.ensures.desk ∙ ap (λ (s : Sums). plus s more) c.audit.ensures.desk
    ∙ ap (plus c.args.desk.now) c.gains_of-entries.ensures in
    subst (Counts c.args.n c.args.desk.now c.reserve-answer.result) (sym added)
    (counts c.args.n c.self.inside.book c.reserve-answer.result c.reserve-answer.new.self c.args.desk.now
    c.reserve-answer.ensures.reserves)

pub returns-clause-lease : goal.returns-clause-lease
returns-clause-lease g c =
    lease_key c.args.n c.self.inside.book c.reserve-answer.result c.reserve-answer.new.self g.E.BookLedger.book.key
    c.reserve-answer.ensures.reserves c.self.invariant.4

pub invariant_of-self : goal.invariant_of-self
invariant_of-self g c =
    let book = c.self.inside.book in
    let answer = c.reserve-answer.result in
    let new = c.reserve-answer.new.self in
    let reserves = c.reserve-answer.ensures.reserves in
    let opening = c.reserve-answer.ensures.opening in (
      order_stays c.args.n book answer new c.requires.some opening c.self.invariant.0 reserves,
      c.count.ensures.totals ∙ more_sums c.args.n book answer new _ _ (c.audit.ensures.totals ∙ c.self.invariant.1)
          c.gains_of-entries.ensures reserves,
      ap (λ (s : SharesState). s.parts) c.audit.ensures.other ∙ c.self.invariant.2,
      ap (λ (s : SharesState). s.counted) c.audit.ensures.other ∙ c.self.invariant.3,
      opening.key ∙ c.self.invariant.4,
      after_one_more c.args.n book answer new g.E.BookLedger.book c.self.invariant.5.0 reserves opening
          c.self.invariant.5.1,
    )
