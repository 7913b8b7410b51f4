use Rattle.std.proofs.Common.{rules}
use Rattle.lms_pool.proofs.pass.IndexPass.place.Goals as goal

pub returns : goal.returns
returns c = search rules
