use Rattle.std.proofs.Common.{◌<◌, ◌^◌, slice_index, arith}
use Rattle.std.proofs.lemmas.Simd.{shifts_fit_splat}
use Rattle.lms_lanes.proofs.Lanes.{EachLane-zip2, Fits-lane, EachLane-self, EachLane-equal, EachLane-splat}
use Rattle.lms_lanes.proofs.blocks.joined.Goals as goal

pub overflow_shl-result : goal.overflow_shl-result
overflow_shl-result c = shifts_fit_splat 32 c.args.x 8 8 (omega arith)

pub overflow_shr-result : goal.overflow_shr-result
overflow_shr-result c = shifts_fit_splat 32 c.args.y 8 24 (omega arith)

pub returns : goal.returns
returns c =
    EachLane-equal (EachLane-zip2 _ (EachLane-zip2 _ (EachLane-self c.args.x c.fits-x.0) (EachLane-splat 8))
    (EachLane-zip2 _ (EachLane-self c.args.y c.fits-y.0) (EachLane-splat 24)))
    (λ k lt.
    let a : slice_index c.args.x k < 2 ^ 32 = (Fits-lane c.args.x k c.fits-x.0 c.fits-x.1 lt).fits in
    let b : slice_index c.args.y k < 2 ^ 32 = (Fits-lane c.args.y k c.fits-y.0 c.fits-y.1 lt).fits in
    omega (arith, a, b))
