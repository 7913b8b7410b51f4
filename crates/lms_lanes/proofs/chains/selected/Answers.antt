use Rattle.std.proofs.Common.{false, cond, ltb, length, get_or, replicate, ap, ◌∙◌, arith, refl, w32}
use Rattle.std.specs.Simd.Lanes.{sel_l, zip2}
use Rattle.std.proofs.lemmas.Simd.{get_or-replicate, get_or-sel_l, get_or-zip2, length-replicate, length-sel_l}
use Rattle.std.proofs.lemmas.Simd.{length-zip2, tops_compared}
use Rattle.lms_lanes.proofs.chains.selected.Goals as goal

pub returns : goal.returns
returns c =
    let next = c.args.next in
    let now = c.args.now in
    let steps = c.args.steps in
    let places = replicate 8 c.from.result in
    let tests = zip2 ltb places steps in
    let place_wide = length-replicate 8 c.from.result in
    let wide = length-zip2 ltb places steps (omega (arith, place_wide, c.fits-steps.0)) in
    let is = ap (λ ms. sel_l ms next now) (tops_compared w32 ltb places steps) in
    record {
      wide = ap length is ∙ omega (
        arith,
        wide,
        place_wide,
        length-sel_l tests next now (omega (arith, wide, place_wide, c.fits-next.0))
            (omega (arith, wide, place_wide, c.fits-now.0)),
      );
      lane = λ k lt.
          ap (λ v. get_or v k 0) is
          ∙ get_or-sel_l tests next now k 0 (omega (arith, wide, place_wide)) (omega (arith, c.fits-next.0))
          (omega (arith, c.fits-now.0))
          ∙ ap (λ t. cond t (get_or next k 0) (get_or now k 0))
          (get_or-zip2 ltb places steps k 0 0 false (omega (arith, place_wide)) (omega (arith, c.fits-steps.0)))
          ∙ rw (get_or-replicate 8 k c.from.result 0 lt, c.from.ensures) refl;
    }
