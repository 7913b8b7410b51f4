use Rattle.lms_book.proofs.Numbered.{numbered}
use Rattle.lms_book.proofs.laws.openings_are_numbered.Goals as goal

pub returns : goal.returns
returns c = numbered
