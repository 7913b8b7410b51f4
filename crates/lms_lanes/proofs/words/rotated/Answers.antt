use Rattle.std.proofs.Common.{◌≡◌, ◌-◌, ◌%◌, arith, refl}
use Rattle.std.proofs.lemmas.Simd.{shifts_fit_splat}
use Rattle.lms_lanes.proofs.Lanes.{EachLane-self, EachLane-zip2, EachLane-splat, EachLane-equal}
use Rattle.lms_lanes.proofs.words.rotated.Goals as goal

pub returns : goal.returns
returns c =
    let at : c.args.by % 32 ≡ c.args.by = omega arith in
    let rest : (32 - c.args.by) % 32 ≡ 32 - c.args.by = omega arith in
    let x = EachLane-self c.args.x c.fits-x.0 in
    EachLane-equal (EachLane-zip2 _ (EachLane-zip2 _ x (EachLane-splat c.args.by))
    (EachLane-zip2 _ x (EachLane-splat (32 - c.args.by)))) (λ k lt. rw (at, rest) refl)

pub overflow_shr-result : goal.overflow_shr-result
overflow_shr-result c = shifts_fit_splat 32 c.args.x 8 c.args.by (omega arith)

pub overflow_shl-result : goal.overflow_shl-result
overflow_shl-result c = shifts_fit_splat 32 c.args.x 8 (32 - c.args.by) (omega arith)
