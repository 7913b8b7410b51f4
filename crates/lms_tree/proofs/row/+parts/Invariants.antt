use Rattle.std.proofs.Common.{◌+◌, ◌*◌, length}
use Rattle.lms_tree.proofs.row.+parts.Given as goal

abbrev pub decreases-fill : goal.decreases-fill
decreases-fill g l = 4 * length l.part.now + 1

abbrev pub decreases-fill_both : goal.decreases-fill_both
decreases-fill_both g l = 4 * length l.part.now

abbrev pub decreases-fill_both-theirs : goal.decreases-fill_both-theirs
decreases-fill_both-theirs g l = 4 * length l.right.now + 2

abbrev pub decreases-fill_both-ours : goal.decreases-fill_both-ours
decreases-fill_both-ours g l = 4 * length l.left.now + 2
