use Rattle.std.proofs.Common.{rules}
use Rattle.lms_params.proofs.ots_type.OtsType.from_code.Goals as goal

pub returns-in-4 : goal.returns-in-4
returns-in-4 c = search rules
