use Rattle.std.proofs.Common.{rules}
use Rattle.lms_tree.proofs.band_tree.lower_rows.Goals as goal

pub returns : goal.returns
returns c = search rules
