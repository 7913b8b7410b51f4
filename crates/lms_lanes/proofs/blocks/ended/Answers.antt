use Rattle.std.proofs.Common.{◌<◌, ◌^◌, slice_index, arith}
use Rattle.std.proofs.lemmas.Simd.{shifts_fit_splat}
use Rattle.lms_lanes.proofs.Lanes.{EachLane-zip2, Fits-lane, EachLane-self, EachLane-equal, EachLane-splat}
use Rattle.lms_lanes.proofs.blocks.ended.Goals as goal

pub overflow_shl-result : goal.overflow_shl-result
overflow_shl-result c = shifts_fit_splat 32 c.args.x 8 8 (omega arith)

pub returns : goal.returns
returns c =
    EachLane-equal
    (EachLane-zip2 _ (EachLane-zip2 _ (EachLane-self c.args.x c.fits-x.0) (EachLane-splat 8)) (EachLane-splat 0x80))
    (λ k lt.
    let a : slice_index c.args.x k < 2 ^ 32 = (Fits-lane c.args.x k c.fits-x.0 c.fits-x.1 lt).fits in
    omega (arith, a))
