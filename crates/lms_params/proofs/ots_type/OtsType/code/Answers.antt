use Rattle.std.proofs.Common.{rules}
use Rattle.lms_params.proofs.ots_type.OtsType.code.Goals as goal

pub returns-in-W4 : goal.returns-in-W4
returns-in-W4 c = search rules
