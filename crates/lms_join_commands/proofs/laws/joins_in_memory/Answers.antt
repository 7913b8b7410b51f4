use Rattle.lms_join_commands.proofs.JoinInMemory.{fails_to_join_in_memory, joins_in_memory}
use Rattle.lms_join_commands.proofs.laws.joins_in_memory.Goals as goal

pub returns-clause-done : goal.returns-clause-done
returns-clause-done c = joins_in_memory

pub returns-clause-fails : goal.returns-clause-fails
returns-clause-fails c = fails_to_join_in_memory
