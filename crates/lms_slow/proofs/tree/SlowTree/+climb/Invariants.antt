use Rattle.std.proofs.Common.{length}
use Rattle.lms_slow.proofs.tree.SlowTree.+climb.Given as goal

abbrev pub decreases-climb : goal.decreases-climb
decreases-climb l = length l.path.now
