use Rattle.std.proofs.Common.{rules}
use Rattle.lms_hss.proofs.forest.Forest.covers.Goals as goal

pub returns-then-g-self : goal.returns-then-g-self
returns-then-g-self c = search rules
