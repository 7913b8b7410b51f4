use Rattle.lms_endorse.proofs.laws.endorsements_are_taken.Goals as goal
use Rattle.lms_endorse.proofs.Endorsements as endorsements

pub returns : goal.returns
returns c = endorsements.endorsements_are_taken
