use Rattle.std.proofs.Common.{rules}
use Rattle.lms_batch.proofs.open_lease.OpenLease.sign_with.Goals as goal

pub invariant_of-result : goal.invariant_of-result
invariant_of-result c = search rules

pub returns-in-Ok-clause-receipt : goal.returns-in-Ok-clause-receipt
returns-in-Ok-clause-receipt c = search rules
