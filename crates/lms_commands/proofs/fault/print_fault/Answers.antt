use Rattle.std.proofs.Common.{rules}
use Rattle.lms_commands.proofs.fault.print_fault.Goals as goal

pub returns : goal.returns
returns g c = search rules
