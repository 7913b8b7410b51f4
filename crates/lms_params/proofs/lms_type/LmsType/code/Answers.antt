use Rattle.std.proofs.Common.{rules}
use Rattle.lms_params.proofs.lms_type.LmsType.code.Goals as goal

pub returns-in-H20 : goal.returns-in-H20
returns-in-H20 c = search rules
