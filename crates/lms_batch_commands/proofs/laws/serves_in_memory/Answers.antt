use Rattle.lms_batch_commands.proofs.ServeInMemory.{fails_to_serve_in_memory, serves_in_memory, tries_in_memory}
use Rattle.lms_batch_commands.proofs.laws.serves_in_memory.Goals as goal

pub returns-clause-groups : goal.returns-clause-groups
returns-clause-groups c = tries_in_memory

pub returns-clause-done : goal.returns-clause-done
returns-clause-done c = serves_in_memory

pub returns-clause-fails : goal.returns-clause-fails
returns-clause-fails c = fails_to_serve_in_memory
