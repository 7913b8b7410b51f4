use Rattle.std.proofs.Common.{rules}
use Rattle.lms_pool.proofs.pool.IndexPool.start.Goals as goal

pub returns-clause-start : goal.returns-clause-start
returns-clause-start c = search rules
