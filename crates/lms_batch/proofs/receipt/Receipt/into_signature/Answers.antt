use Rattle.std.proofs.Common.{rules}
use Rattle.lms_batch.proofs.receipt.Receipt.into_signature.Goals as goal

pub returns-clause-value : goal.returns-clause-value
returns-clause-value c = search rules
