use Rattle.std.proofs.Common.{rules}
use Rattle.lms_book.proofs.stored_bytes.StoredBytes.new.Goals as goal

pub returns-clause-made : goal.returns-clause-made
returns-clause-made c = search rules
