use Rattle.std.proofs.Common.{arith}
use Rattle.std.proofs.lemmas.Simd.{shifts_fit_splat}
use Rattle.lms_lanes.proofs.Lanes.{EachLane-zip2, Fits-lane, EachLane-self, EachLane-splat}
use Rattle.lms_lanes.proofs.halves.half_opened.Goals as goal

pub overflow_shr-result : goal.overflow_shr-result
overflow_shr-result c = shifts_fit_splat 32 c.args.x 8 16 (omega arith)

pub returns-clause-head_fits : goal.returns-clause-head_fits
returns-clause-head_fits c = λ k lt. (Fits-lane c.args.head k c.fits-head.0 c.fits-head.1 lt).fits

pub returns-clause-word_fits : goal.returns-clause-word_fits
returns-clause-word_fits c = λ k lt. (Fits-lane c.args.x k c.fits-x.0 c.fits-x.1 lt).fits

pub returns-clause-words : goal.returns-clause-words
returns-clause-words c = EachLane-zip2 _ (EachLane-self c.args.head c.fits-head.0)
    (EachLane-zip2 _ (EachLane-self c.args.x c.fits-x.0) (EachLane-splat 16))
