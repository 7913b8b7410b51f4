use Rattle.std.proofs.Common.{rules}
use Rattle.lms_book.proofs.reservations.Reservations.counter.Goals as goal

pub returns-clause-counter : goal.returns-clause-counter
returns-clause-counter c = search rules

pub returns-clause-counted : goal.returns-clause-counted
returns-clause-counted c = search rules
