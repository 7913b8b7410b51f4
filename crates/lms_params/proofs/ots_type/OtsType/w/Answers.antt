use Rattle.std.proofs.Common.{rules}
use Rattle.lms_params.proofs.ots_type.OtsType.w.Goals as goal

pub returns-in-W8 : goal.returns-in-W8
returns-in-W8 c = search rules
