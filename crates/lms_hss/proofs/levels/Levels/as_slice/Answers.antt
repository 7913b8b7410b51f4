use Rattle.std.proofs.Common.{rules}
use Rattle.lms_hss.proofs.levels.Levels.as_slice.Goals as goal

pub returns-clause-levels : goal.returns-clause-levels
returns-clause-levels c = search rules
