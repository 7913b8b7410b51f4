-- A seat may go to another thread.
use denote.Param.Send.{IsSend, sendable}
use Rattle.std.proofs.Crossing.{crosses}
use Rattle.atomic_table.proofs.shared.Seat.TheSendSync.{the_send as token_send}
use Rattle.lms_cell_pool.specs.contracts.seat.CellSeat as cell_seat

pub seat_is_sent : IsSend cell_seat.the_row
seat_is_sent = search (token_send, sendable, crosses) depth 20
