use Rattle.std.proofs.Common.{rules}
use Rattle.lms_cell_pool.proofs.pass.CellPass.index.Goals as goal

pub returns : goal.returns
returns c = search rules
