use Rattle.std.proofs.Common.{rules}
use Rattle.lms_cli.proofs.Ending.{any_front}
use Rattle.lms_cli.proofs.run.report.Goals as goal

pub returns-clause-status : goal.returns-clause-status
returns-clause-status g c = search rules

pub returns-clause-line : goal.returns-clause-line
returns-clause-line g c = any_front _ _ _ _ c.print_fault.ensures.printed c.print_fault.ensures.broken
