use Rattle.std.proofs.Common.{rules}
use Rattle.lms_signature_commands.proofs.verdict.Verdict.status.Goals as goal

pub returns-in-Invalid : goal.returns-in-Invalid
returns-in-Invalid c = search rules
