use Rattle.std.proofs.Common.{rules}
use Rattle.lms_book.proofs.reservations.Reservations.openings.Goals as goal

pub returns : goal.returns
returns c = search rules
