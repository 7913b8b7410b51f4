use Rattle.std.proofs.Common.{◌-◌}
use Rattle.lms_book.specs.Books.{counter}
use Rattle.lms_key_commands.proofs.ResumePieces.{IsCounted}
use Rattle.lms_key_commands.proofs.resume.burn_below.Given as goal

abbrev pub invariant-loop-book : goal.invariant-loop-book
invariant-loop-book g l = IsCounted l.fn.end l.fn.book l.book

abbrev pub decreases-loop-book : goal.decreases-loop-book
decreases-loop-book g l = l.fn.end - counter l.book
