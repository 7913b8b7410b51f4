use Rattle.std.proofs.Common.{rules}
use Rattle.lms_tree.proofs.planned_tree.PlannedTree.build.Goals as goal

pub invariant_of-result : goal.invariant_of-result
invariant_of-result g c = search rules
