use Rattle.std.proofs.Common.{rules}
use Rattle.lms_key_commands.proofs.keygen.key_from.Goals as goal

pub returns-in_err-id-clause-refused : goal.returns-in_err-id-clause-refused
returns-in_err-id-clause-refused g c = search rules
