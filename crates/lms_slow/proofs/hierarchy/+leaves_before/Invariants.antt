use Rattle.std.proofs.Common.{length}
use Rattle.lms_slow.proofs.hierarchy.+leaves_before.Given as goal

abbrev pub decreases-leaves_before : goal.decreases-leaves_before
decreases-leaves_before l = length l.below.now
