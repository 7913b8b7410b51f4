use Rattle.std.proofs.Common.{◌∙◌, ◌-◌, ◌<◌, length, sym, ap, subst, arith}
use Rattle.lms_book.specs.History.{confirmed}
use Rattle.lms_book.specs.States.{ReservationsState, IsKept}
use Rattle.lms_book.proofs.Histories.{kept_confirmed, confirmed-set}
use Rattle.lms_book.proofs.reservations.Reservations.confirm.Goals as goal

pub invariant_of-self : goal.invariant_of-self
invariant_of-self c =
    let r = c.self.inside in
    let state : ReservationsState =
    record { key = r.key; base = r.base; openings = r.openings; burnt = r.burnt_before; history = r.history.items } in
    let some : 0 < length r.history.items = omega (arith, c.in-Some.ensures.variant.0 cc) in
    let less = ap (λ n. r.burnt - n) c.burnt.ensures in
    subst (λ l. IsKept (record state { history = l }) r.counter r.counter (r.burnt - c.burnt.result))
    (sym (confirmed-set r.history.items c.in-Some.last.now _ c.len.result
    (omega (arith, some)) c.in-Some.ensures.value c.len.ensures))
    (subst (λ b. IsKept (record state { history = confirmed r.history.items }) r.counter r.counter b) (sym less)
    (kept_confirmed state c.in-Some.last.now _ r.counter r.stored r.burnt
    (omega (arith, some)) c.in-Some.ensures.value c.self.invariant))

pub returns-in-Some : goal.returns-in-Some
returns-in-Some c =
    let r = c.self.inside in
    let state : ReservationsState =
    record { key = r.key; base = r.base; openings = r.openings; burnt = r.burnt_before; history = r.history.items } in
    let some : 0 < length r.history.items = omega (arith, c.in-Some.ensures.variant.0 cc) in
    ap (λ l. record state { history = l }) (confirmed-set r.history.items c.in-Some.last.now _ c.len.result
    (omega (arith, some)) c.in-Some.ensures.value c.len.ensures)
    ∙ ap (λ (s : ReservationsState). record s { history = confirmed s.history }) c.self.view_is
