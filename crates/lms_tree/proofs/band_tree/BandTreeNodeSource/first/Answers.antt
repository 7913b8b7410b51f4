use Rattle.std.proofs.Common.{rules}
use Rattle.lms_tree.proofs.band_tree.BandTreeNodeSource.first.Goals as goal

pub returns : goal.returns
returns c = search rules
