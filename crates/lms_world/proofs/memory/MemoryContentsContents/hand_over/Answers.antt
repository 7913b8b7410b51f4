use Rattle.std.proofs.Common.{rules}
use Rattle.lms_world.proofs.memory.MemoryContentsContents.hand_over.Goals as goal

pub returns-clause-handed : goal.returns-clause-handed
returns-clause-handed g c = search rules
