use Rattle.lms_batch_commands.proofs.BatchInMemory.{fails_to_sign_jobs_in_memory, signs_jobs_in_memory}
use Rattle.lms_batch_commands.proofs.laws.signs_jobs_in_memory.Goals as goal

pub returns-clause-done : goal.returns-clause-done
returns-clause-done c = signs_jobs_in_memory

pub returns-clause-fails : goal.returns-clause-fails
returns-clause-fails c = fails_to_sign_jobs_in_memory
