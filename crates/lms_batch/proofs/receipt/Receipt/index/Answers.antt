use Rattle.std.proofs.Common.{rules}
use Rattle.lms_batch.proofs.receipt.Receipt.index.Goals as goal

pub returns-clause-index : goal.returns-clause-index
returns-clause-index c = search rules

pub returns-clause-within : goal.returns-clause-within
returns-clause-within c = search rules
