use Rattle.std.proofs.Common.{rules}
use Rattle.lms_batch.proofs.open_lease.OpenLease.finish.Goals as goal

pub returns-in-Ok : goal.returns-in-Ok
returns-in-Ok c = search rules
