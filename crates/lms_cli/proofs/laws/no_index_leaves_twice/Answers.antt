use Rattle.lms_cli.proofs.Turning.{no_index_leaves}
use Rattle.lms_cli.proofs.laws.no_index_leaves_twice.Goals as goal

pub returns : goal.returns
returns c = no_index_leaves
