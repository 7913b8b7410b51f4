use Rattle.std.proofs.Common.{rules}
use Rattle.lms_params.proofs.lms_type.LmsType.height.Goals as goal

pub returns-in-H15 : goal.returns-in-H15
returns-in-H15 c = search rules
