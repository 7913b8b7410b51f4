use Rattle.std.proofs.Common.{◌+◌, ◌≤◌, sym, subst, arith}
use Rattle.lms_spec.specs.Hss.{capacity_of}
use Rattle.lms_hss.specs.Keys.{hss_key_of}
use Rattle.lms_book.specs.History.{counter_of}
use Rattle.lms_book.specs.States.{ReservationsState, IsKept}
use Rattle.lms_book.proofs.Histories.{kept_burnt}
use Rattle.lms_book.proofs.reservations.Reservations.begin.Goals as goal

pub invariant_of-self-2 : goal.invariant_of-self-2
invariant_of-self-2 c =
    let r = c.self.inside in
    let state : ReservationsState =
    record { key = r.key; base = r.base; openings = r.openings; burnt = r.burnt_before; history = r.history.items } in
    let HasEnough : ReservationsState → Type 0 =
    λ s. counter_of s.base s.history + c.args.n ≤ capacity_of (hss_key_of s.key) in
    let enough : counter_of r.base r.history.items + c.args.n ≤ capacity_of (hss_key_of r.key) =
    subst HasEnough (sym c.self.view_is) c.requires in
    subst (λ l. IsKept (record state { history = l }) (r.counter + c.args.n) r.stored (r.burnt + c.args.n))
    (sym c.in_ok-push.ensures.items)
    (kept_burnt state r.counter r.stored r.burnt c.args.n c.self.invariant
    (omega (arith, enough, c.self.invariant.counter_is)))
