use Rattle.std.proofs.Common.{arith}
use Rattle.std.proofs.lemmas.Grind.{common_steps}
use Rattle.lms_tree.proofs.row.fill_next.Goals as goal

pub returns-then-piece_len-eq-LANES-clause-nodes : goal.returns-then-piece_len-eq-LANES-clause-nodes
returns-then-piece_len-eq-LANES-clause-nodes g c = grind (arith, common_steps)
