use Rattle.lms_signature_commands.proofs.VerifyInMemory.{fails_to_judge_in_memory, judges_in_memory}
use Rattle.lms_signature_commands.proofs.laws.judges_in_memory.Goals as goal

pub returns-clause-done : goal.returns-clause-done
returns-clause-done c = judges_in_memory

pub returns-clause-fails : goal.returns-clause-fails
returns-clause-fails c = fails_to_judge_in_memory
