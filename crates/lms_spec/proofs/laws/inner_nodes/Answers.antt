use Rattle.lms_spec.proofs.Nodes.{node-inner}
use Rattle.lms_spec.proofs.laws.inner_nodes.Goals as goal

pub returns : goal.returns
returns c = node-inner
