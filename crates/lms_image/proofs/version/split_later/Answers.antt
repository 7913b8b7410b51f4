use Rattle.std.proofs.Common.{rules}
use Rattle.lms_image.proofs.version.split_later.Goals as goal

pub returns-in-First-clause-some : goal.returns-in-First-clause-some
returns-in-First-clause-some c = search rules
