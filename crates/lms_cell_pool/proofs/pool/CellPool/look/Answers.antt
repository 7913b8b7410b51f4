use Rattle.std.proofs.Common.{rules, sym, ap, ◌∙◌}
use Rattle.crossbeam_utils.specs.Seq.{cell_view}
use Rattle.lms_pool.specs.States.{PoolState, SeatState}
use Rattle.lms_cell_pool.proofs.Steps.{looks}
use Rattle.lms_cell_pool.proofs.Seats.{own_hand}
use Rattle.lms_cell_pool.proofs.pool.CellPool.look.Goals as goal

pub load_as-found-requires : goal.load_as-found-requires
load_as-found-requires g c =
    let me = c.me.inside in
    let same = ap (λ (s : SeatState). s.pool) c.me.view_is ∙ c.requires ∙ sym c.self.view_is in (
      search rules,
      (
        search rules,
        (
          c.me.invariant.of_pool.table_is ∙ ap (λ (p : PoolState). p.table) same,
          looks me.token.id (cell_view me.token) _ (own_hand me) c.me.invariant.alone,
        ),
      ),
    )
