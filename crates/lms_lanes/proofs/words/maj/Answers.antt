use Rattle.std.proofs.Common.{slice_index}
use Rattle.lms_lanes.proofs.Lanes.{EachLane-self, EachLane-zip2, EachLane-equal}
use Rattle.lms_lanes.proofs.Majority.{maj_short}
use Rattle.lms_lanes.proofs.words.maj.Goals as goal

pub returns : goal.returns
returns c =
    let x = EachLane-self c.args.x c.fits-x.0 in
    let y = EachLane-self c.args.y c.fits-y.0 in
    let z = EachLane-self c.args.z c.fits-z.0 in
    EachLane-equal (EachLane-zip2 _ y (EachLane-zip2 _ (EachLane-zip2 _ x y) (EachLane-zip2 _ y z)))
    (λ k lt. maj_short (slice_index c.args.x k) (slice_index c.args.y k) (slice_index c.args.z k))
