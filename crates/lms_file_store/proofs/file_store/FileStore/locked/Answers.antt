use Rattle.std.proofs.Common.{rules}
use Rattle.lms_file_store.proofs.file_store.FileStore.locked.Goals as goal

pub returns : goal.returns
returns g c = search rules
