use Rattle.std.proofs.Common.{◌≡◌, ◌^◌, ◌<◌, ◌-◌, min, List, ◌++◌, Some, length, vec_len}
use Rattle.crossbeam_utils.specs.Seq.{cell_view}
use Rattle.lms_pool.specs.Rule.{total}
use Rattle.lms_pool.specs.States.{SeatState}
use Rattle.lms_pool.proofs.Wholes.{hands_of, stops_of}
use Rattle.lms_cell_pool.specs.Rule.{known}
use Rattle.lms_cell_pool.proofs.pool.CellPool.finish.Given as goal

-- the seats that came together
abbrev pub invariant-loop-next : goal.invariant-loop-next
invariant-loop-next g l =
    (joined : List SeatState)
    × (l.fn.seats.items ≡ l.seats.items ++ joined)
    × (l.all.table_id ≡ l.cell.table.shared.table_id)
    × (cell_view l.all ≡ Some (known l.fn.self.seats (hands_of joined)))
    × (l.stopped ≡ min (total stops_of joined) (2 ^ 64 - 1))
    × (0 < length joined)

abbrev pub decreases-loop-next : goal.decreases-loop-next
decreases-loop-next g l = vec_len l.seats
