use Rattle.std.proofs.Common.{rules}
use Rattle.lms_params.proofs.ots_type.OtsType.ls.Goals as goal

pub returns-in-W1 : goal.returns-in-W1
returns-in-W1 c = search rules
