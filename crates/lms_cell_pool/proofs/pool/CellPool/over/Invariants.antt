use Rattle.crossbeam_utils.specs.Seq.{cell_view}
use Rattle.lms_pool.proofs.NewSeats.{AreBegun}
use Rattle.lms_cell_pool.specs.States.{IsRest}
use Rattle.lms_cell_pool.proofs.pool.CellPool.over.Given as goal

abbrev pub invariant-loop-number : goal.invariant-loop-number
invariant-loop-number g l = record {
  rest : IsRest l.pool l.number l.rest.table_id (cell_view l.rest);
  begun : AreBegun l.pool l.number l.all_seats;
}
