use Rattle.lms_batch_commands.proofs.ServingTurns.{fails_in_turns, serves_in_turns}
use Rattle.lms_batch_commands.proofs.laws.serves_in_turns.Goals as goal

pub returns-clause-done : goal.returns-clause-done
returns-clause-done c = serves_in_turns

pub returns-clause-fails : goal.returns-clause-fails
returns-clause-fails c = fails_in_turns
