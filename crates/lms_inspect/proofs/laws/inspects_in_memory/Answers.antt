use Rattle.lms_inspect.proofs.InspectInMemory.{fails_to_inspect_in_memory, inspects_in_memory}
use Rattle.lms_inspect.proofs.laws.inspects_in_memory.Goals as goal

pub returns-clause-done : goal.returns-clause-done
returns-clause-done c = inspects_in_memory

pub returns-clause-fails : goal.returns-clause-fails
returns-clause-fails c = fails_to_inspect_in_memory
