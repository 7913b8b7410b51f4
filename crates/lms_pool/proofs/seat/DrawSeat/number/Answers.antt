use Rattle.std.proofs.Common.{rules}
use Rattle.lms_pool.proofs.seat.DrawSeat.number.Goals as goal

pub returns-clause-number : goal.returns-clause-number
returns-clause-number c = search rules
