use Rattle.std.proofs.Common.{rules}
use Rattle.lms_tree.proofs.whole_tree.WholeTreeNodeSource.first.Goals as goal

pub returns : goal.returns
returns c = search rules
