use Rattle.std.proofs.Common.{◌≡◌, ◌∙◌, ap, sym}
use Rattle.std.specs.Prelude.{Some}
use Rattle.std.proofs.lemmas.List.Elements.{All-pop}
use Rattle.std.specs.Arc.{arc_value}
use Rattle.bench_service.proofs.claims.share_out.Goals as goal

pub loop-own-preserved : goal.loop-own-preserved
loop-own-preserved g c =
    let Ours : g.row.P-Seat.Denot → Type 0 =
    λ seat. g.P.Pool.pool_of seat ≡ g.P.Pool.state (arc_value c.args.pool.now) in
    (All-pop Ours _ _ _ c.pop.ensures.items c.loop-own.invariant).0

pub invariant_of-push : goal.invariant_of-push
invariant_of-push g c =
    let Ours : g.row.P-Seat.Denot → Type 0 =
    λ seat. g.P.Pool.pool_of seat ≡ g.P.Pool.state (arc_value c.args.pool.now) in
    record {
      own = (All-pop Ours _ _ (Some c.in-Some.seat) c.in-Some.ensures.items c.loop-own.invariant).1
          ∙ ap g.P.Pool.state (sym c.in-Ok.ensures.cases);
    }
