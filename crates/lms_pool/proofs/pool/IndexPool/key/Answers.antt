use Rattle.std.proofs.Common.{rules}
use Rattle.lms_pool.proofs.pool.IndexPool.key.Goals as goal

pub returns : goal.returns
returns c = search rules
