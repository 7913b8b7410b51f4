use Rattle.std.proofs.Common.{rules}
use Rattle.lms_ots.proofs.hashing.hasher_at.Goals as goal

pub returns : goal.returns
returns c = search rules
