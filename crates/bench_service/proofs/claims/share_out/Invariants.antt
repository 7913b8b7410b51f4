use Rattle.std.proofs.Common.{◌≡◌, All}
use Rattle.std.specs.Arc.{arc_value}
use Rattle.bench_service.proofs.claims.share_out.Given as goal

abbrev pub invariant-loop-own : goal.invariant-loop-own
invariant-loop-own g l = All (λ seat. g.P.Pool.pool_of seat ≡ g.P.Pool.state (arc_value l.fn.pool)) l.seats.items
