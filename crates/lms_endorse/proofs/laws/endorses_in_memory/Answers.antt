use Rattle.lms_endorse.proofs.EndorseInMemory.{endorses_in_memory, fails_to_endorse_in_memory}
use Rattle.lms_endorse.proofs.laws.endorses_in_memory.Goals as goal

pub returns-clause-done : goal.returns-clause-done
returns-clause-done c = endorses_in_memory

pub returns-clause-fails : goal.returns-clause-fails
returns-clause-fails c = fails_to_endorse_in_memory
