use denote.Param.Send.{sendable}
use Rattle.lms_cell_pool.proofs.Sent.{seat_is_sent as cell_seat_is_sent}
use Rattle.lms_pool.proofs.Sent.{seat_is_sent}
use Rattle.bench_service.proofs.measure.measure_claims.Goals as goal

pub time_claims-requires-send-P-Seat : goal.time_claims-requires-send-P-Seat
time_claims-requires-send-P-Seat g c κs = search (seat_is_sent, sendable)

pub time_claims-requires-in-loop-send-P-Seat : goal.time_claims-requires-in-loop-send-P-Seat
time_claims-requires-in-loop-send-P-Seat g c κs = search (cell_seat_is_sent, sendable)
