use Rattle.std.proofs.Common.{ap}
use Rattle.lms_world.specs.Files.{held_in}
use Rattle.lms_book.specs.Memory.{cannot_read}
use Rattle.lms_world.proofs.memory.MemoryWorldWorld.put_back.Goals as goal

pub returns-clause-acts : goal.returns-clause-acts
returns-clause-acts c = (cannot_read c.args.store, ap held_in c.set_state.ensures)
