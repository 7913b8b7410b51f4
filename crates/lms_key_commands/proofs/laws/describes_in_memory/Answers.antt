use Rattle.lms_key_commands.proofs.InfoInMemory.{fails_to_describe_in_memory, describes_in_memory}
use Rattle.lms_key_commands.proofs.laws.describes_in_memory.Goals as goal

pub returns-clause-done : goal.returns-clause-done
returns-clause-done c = describes_in_memory

pub returns-clause-fails : goal.returns-clause-fails
returns-clause-fails c = fails_to_describe_in_memory
