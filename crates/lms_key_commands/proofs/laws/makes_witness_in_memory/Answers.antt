use Rattle.lms_key_commands.proofs.WitnessInMemory.{fails_to_make_witness_in_memory, makes_witness_in_memory}
use Rattle.lms_key_commands.proofs.laws.makes_witness_in_memory.Goals as goal

pub returns-clause-done : goal.returns-clause-done
returns-clause-done c = makes_witness_in_memory

pub returns-clause-fails : goal.returns-clause-fails
returns-clause-fails c = fails_to_make_witness_in_memory
