use Rattle.lms_signature_commands.proofs.NodesStaying.{nodes_stay_right}
use Rattle.lms_signature_commands.proofs.laws.nodes_stay_right.Goals as goal

pub returns : goal.returns
returns c = nodes_stay_right
