use Rattle.lms_spec.proofs.Nodes.{node-leaf}
use Rattle.lms_spec.proofs.laws.leaf_nodes.Goals as goal

pub returns : goal.returns
returns c = node-leaf
