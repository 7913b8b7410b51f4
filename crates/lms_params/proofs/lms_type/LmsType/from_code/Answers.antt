use Rattle.std.proofs.Common.{rules}
use Rattle.lms_params.proofs.lms_type.LmsType.from_code.Goals as goal

pub returns-in-9 : goal.returns-in-9
returns-in-9 c = search rules
