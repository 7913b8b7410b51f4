use Rattle.lms_key_commands.proofs.ResumeInMemory.{fails_to_resume_in_memory, resumes_in_memory}
use Rattle.lms_key_commands.proofs.laws.resumes_in_memory.Goals as goal

pub returns-clause-done : goal.returns-clause-done
returns-clause-done c = resumes_in_memory

pub returns-clause-fails : goal.returns-clause-fails
returns-clause-fails c = fails_to_resume_in_memory
