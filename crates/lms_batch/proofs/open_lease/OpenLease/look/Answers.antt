use Rattle.std.proofs.Common.{rules}
use Rattle.lms_batch.proofs.open_lease.OpenLease.look.Goals as goal

pub returns-clause-call : goal.returns-clause-call
returns-clause-call c = search rules
