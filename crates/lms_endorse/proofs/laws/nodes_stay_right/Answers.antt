use Rattle.lms_endorse.proofs.laws.nodes_stay_right.Goals as goal
use Rattle.lms_endorse.proofs.Endorsements as endorsements

pub returns : goal.returns
returns c = endorsements.nodes_stay_right
