use Rattle.std.proofs.Common.{rules}
use Rattle.lms_file_store.proofs.file_store.FileStoreStateStore.replace.Goals as goal

pub returns-in-Err-clause-recorded : goal.returns-in-Err-clause-recorded
returns-in-Err-clause-recorded g c = search rules
