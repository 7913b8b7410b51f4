use Rattle.std.proofs.Common.{rules, sym, ap, ◌∙◌, refl}
use Rattle.crossbeam_utils.specs.Seq.{cell_view}
use Rattle.lms_pool.specs.States.{PoolState}
use Rattle.lms_cell_pool.proofs.Steps.{fills}
use Rattle.lms_cell_pool.proofs.pool.CellPool.fill.Goals as goal

pub swap_as-requires : goal.swap_as-requires
swap_as-requires g c =
    let pool = c.self.inside in
    let first = c.args.first.now in (
      search rules,
      (
        search rules,
        (
          c.requires.table ∙ sym (ap (λ (p : PoolState). p.table) c.self.view_is),
          fills first.id (cell_view first) (record { taken = 0; len = pool.len; seats = pool.seats }) c.requires.empty
              refl c.self.invariant.lease.at_most c.self.invariant.at_most,
        ),
      ),
    )
