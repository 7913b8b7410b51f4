use Rattle.std.proofs.Common.{rules}
use Rattle.lms_batch.proofs.receipt.Receipt.key.Goals as goal

pub returns : goal.returns
returns c = search rules
