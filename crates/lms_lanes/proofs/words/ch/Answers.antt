use Rattle.lms_lanes.proofs.Lanes.{EachLane-self, EachLane-zip2, EachLane-map}
use Rattle.lms_lanes.proofs.words.ch.Goals as goal

pub returns : goal.returns
returns c =
    let x = EachLane-self c.args.x c.fits-x.0 in
    let z = EachLane-self c.args.z c.fits-z.0 in
    EachLane-zip2 _ (EachLane-zip2 _ x (EachLane-self c.args.y c.fits-y.0)) (EachLane-zip2 _ (EachLane-map _ x) z)
