use Rattle.lms_key_commands.proofs.NodesStaying.{new_nodes_are_right}
use Rattle.lms_key_commands.proofs.laws.new_nodes_are_right.Goals as goal

pub returns : goal.returns
returns c = new_nodes_are_right
