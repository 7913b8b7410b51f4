use Rattle.std.proofs.Common.{rules}
use Rattle.lms_batch.proofs.receipt.Receipt.signature.Goals as goal

pub returns-clause-value : goal.returns-clause-value
returns-clause-value c = search rules

pub returns-clause-signed : goal.returns-clause-signed
returns-clause-signed c = search rules

pub returns-clause-accepted : goal.returns-clause-accepted
returns-clause-accepted c = search rules
