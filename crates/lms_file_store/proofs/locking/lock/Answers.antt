use Rattle.std.proofs.Common.{rules}
use Rattle.lms_file_store.proofs.locking.lock.Goals as goal

pub returns : goal.returns
returns g c = search rules
