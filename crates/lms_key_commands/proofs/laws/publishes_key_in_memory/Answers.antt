use Rattle.lms_key_commands.proofs.PublicInMemory.{fails_to_publish_key_in_memory, publishes_key_in_memory}
use Rattle.lms_key_commands.proofs.laws.publishes_key_in_memory.Goals as goal

pub returns-clause-done : goal.returns-clause-done
returns-clause-done c = publishes_key_in_memory

pub returns-clause-fails : goal.returns-clause-fails
returns-clause-fails c = fails_to_publish_key_in_memory
