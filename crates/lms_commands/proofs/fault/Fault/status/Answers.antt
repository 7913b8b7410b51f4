use Rattle.std.proofs.Common.{rules}
use Rattle.lms_commands.proofs.fault.Fault.status.Goals as goal

pub returns-in-Exhausted : goal.returns-in-Exhausted
returns-in-Exhausted c = search rules
