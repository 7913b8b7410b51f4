use Rattle.std.proofs.Common.{rules, Some, sym, ap, ◌∙◌}
use Rattle.crossbeam_utils.specs.Seq.{cell_view}
use Rattle.lms_pool.specs.Rule.{new_hands}
use Rattle.lms_pool.specs.States.{PoolState}
use Rattle.lms_pool.proofs.Deals.{next_numbers}
use Rattle.lms_cell_pool.specs.Rule.{known, other_views}
use Rattle.lms_cell_pool.proofs.Views.{forks}
use Rattle.lms_cell_pool.proofs.pool.CellPool.part.Goals as goal

pub split_pass-requires : goal.split_pass-requires
split_pass-requires c =
    let rest = c.args.rest.now in (
      search rules,
      (
        search rules,
        (
          c.requires.rest.0 ∙ sym (ap (λ (p : PoolState). p.table) c.self.view_is),
          forks rest.id (cell_view rest) _ c.requires.rest.1,
        ),
      ),
    )

pub returns-clause-rest : goal.returns-clause-rest
returns-clause-rest c =
    let pool = c.args.self.now in
    let is = c.requires.rest.1 ∙ ap (λ numbers. Some (known pool.seats (new_hands pool.len numbers)))
    (next_numbers c.args.number pool.seats c.requires.below) in
    (c.split_pass.ensures.kept.0.0 ∙ c.requires.rest.0, c.split_pass.ensures.kept.1 ∙ ap other_views is)
