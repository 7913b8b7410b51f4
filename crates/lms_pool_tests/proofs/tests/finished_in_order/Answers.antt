use Rattle.std.proofs.Common.{◌≡◌, [], All, subst}
use Rattle.std.proofs.lemmas.List.Elements.{All-pop, All-push, All-same}
use Rattle.lms_pool.proofs.Wholes.{all_at}
use Rattle.lms_pool_tests.proofs.tests.finished_in_order.Goals as goal

pub loop-claimed-preserved : goal.loop-claimed-preserved
loop-claimed-preserved g c =
    let Ours : g.row.P-Seat.Denot → Type 0 = λ seat. g.P.Pool.pool_of seat ≡ g.P.Pool.state c.args.pool in
    let inv = c.loop-claimed.invariant in
    let last = all_at (λ d. Ours d.0) c.pop.new.self.items c.in-Some.claimed []
    (subst (All (λ d. Ours d.0)) c.in-Some.ensures.items inv.all) in
    record {
      all = (All-pop (λ d. Ours d.0) _ _ _ c.pop.ensures.items inv.all).0;
      seats = All-same Ours _ _ c.in_ok-push.ensures.items
          (All-push Ours c.loop-claimed.seats.items c.in-Some.claimed.0 inv.seats last);
    }
