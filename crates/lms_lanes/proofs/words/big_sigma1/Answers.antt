use Rattle.lms_lanes.proofs.Lanes.{EachLane-zip2}
use Rattle.lms_lanes.proofs.words.big_sigma1.Goals as goal

pub returns : goal.returns
returns c = EachLane-zip2 _ (EachLane-zip2 _ c.rotated.ensures c.rotated-2.ensures) c.rotated-3.ensures
