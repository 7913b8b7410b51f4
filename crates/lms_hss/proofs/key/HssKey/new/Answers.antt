use Rattle.std.proofs.Common.{rules}
use Rattle.lms_hss.proofs.key.HssKey.new.Goals as goal

pub returns-clause-seed : goal.returns-clause-seed
returns-clause-seed c = search rules
