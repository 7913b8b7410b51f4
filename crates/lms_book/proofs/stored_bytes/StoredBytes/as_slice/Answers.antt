use Rattle.std.proofs.Common.{rules}
use Rattle.lms_book.proofs.stored_bytes.StoredBytes.as_slice.Goals as goal

pub returns : goal.returns
returns c = search rules
