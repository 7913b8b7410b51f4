use Rattle.std.proofs.Common.{rules}
use Rattle.lms_book.proofs.fault.last_index.Goals as goal

pub returns : goal.returns
returns c = search rules
