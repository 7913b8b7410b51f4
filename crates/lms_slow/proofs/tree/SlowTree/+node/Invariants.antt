use Rattle.std.proofs.Common.{◌-◌, ◌^◌}
use Rattle.lms_slow.proofs.tree.SlowTree.+node.Given as goal

abbrev pub decreases-node : goal.decreases-node
decreases-node l = 2 ^ 26 - l.r
