use Rattle.std.proofs.Common.{arith}
use Rattle.std.proofs.lemmas.Simd.{shifts_fit_splat}
use Rattle.lms_lanes.proofs.Lanes.{EachLane-self, EachLane-zip2, EachLane-splat}
use Rattle.lms_lanes.proofs.words.small_sigma1.Goals as goal

pub returns : goal.returns
returns c = EachLane-zip2 _ (EachLane-zip2 _ c.rotated.ensures c.rotated-2.ensures)
    (EachLane-zip2 _ (EachLane-self c.args.x c.fits-x.0) (EachLane-splat 10))

pub overflow_shr-result : goal.overflow_shr-result
overflow_shr-result c = shifts_fit_splat 32 c.args.x 8 10 (omega arith)
