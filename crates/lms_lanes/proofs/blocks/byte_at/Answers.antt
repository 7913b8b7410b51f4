use Rattle.std.proofs.Common.{◌<◌, ◌^◌, slice_index, arith}
use Rattle.lms_lanes.proofs.Lanes.{EachLane-zip2, EachLane-self, EachLane-equal, EachLane-splat}
use Rattle.lms_lanes.proofs.blocks.byte_at.Goals as goal

pub returns : goal.returns
returns c =
    EachLane-equal (EachLane-zip2 _ (EachLane-zip2 _ (EachLane-zip2 _ (EachLane-self c.args.first c.fits-first.0)
    (EachLane-splat _)) (EachLane-splat 24)) (EachLane-splat 16))
    (λ k lt.
    let small : slice_index c.args.first k < 2 ^ 16 = c.requires k lt in
    omega (arith, small))
