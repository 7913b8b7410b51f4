use Rattle.std.proofs.Common.{rules}
use Rattle.lms_pool.proofs.pass.IndexPass.index.Goals as goal

pub returns : goal.returns
returns c = search rules
