use Rattle.std.proofs.Common.{rules}
use Rattle.lms_ots.proofs.verification.Verifier.begin.Goals as goal

pub returns-in_err-signature-clause-none : goal.returns-in_err-signature-clause-none
returns-in_err-signature-clause-none c = search rules

pub returns-in_err-signature-clause-no_parts : goal.returns-in_err-signature-clause-no_parts
returns-in_err-signature-clause-no_parts c = search rules

pub returns-clause-some : goal.returns-clause-some
returns-clause-some c = search rules
