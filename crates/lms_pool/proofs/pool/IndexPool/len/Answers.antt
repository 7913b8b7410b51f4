use Rattle.std.proofs.Common.{rules}
use Rattle.lms_pool.proofs.pool.IndexPool.len.Goals as goal

pub returns-clause-len : goal.returns-clause-len
returns-clause-len c = search rules

pub returns-clause-lease : goal.returns-clause-lease
returns-clause-lease c = search rules
