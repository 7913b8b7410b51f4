use Rattle.std.proofs.Common.{length}
use Rattle.lms_slow.proofs.hierarchy.+signatures.Given as goal

abbrev pub decreases-signatures : goal.decreases-signatures
decreases-signatures l = length l.below.now
