use Rattle.std.proofs.Common.{rules}
use Rattle.lms_file_store.proofs.file_store.FileStoreStateStore.read.Goals as goal

pub returns-in-Ok-clause-known : goal.returns-in-Ok-clause-known
returns-in-Ok-clause-known g c = search rules
