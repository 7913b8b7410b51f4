use Rattle.std.proofs.Common.{◌-◌, length, min, ◌≡◌, ◌<◌, ◌≤◌, [], get_or, slice_index, refl, ◌∙◌, ap, arith}
use Rattle.lms_spec.specs.Ots.{end_from, last_digit}
use Rattle.lms_params.specs.OtsType.{ots_set_of}
use Rattle.lms_ots.proofs.Ends.{all-ends, holds-more}
use Rattle.lms_ots.proofs.LaneChains.{lane-from_digit, last_digit-byte}
use Rattle.lms_ots.proofs.chain_ends.ByEightsChainEnds.ends_hash.Goals as goal

pub loop-i-preserved : goal.loop-i-preserved
loop-i-preserved c =
    let id = c.args.id in
    let i = c.loop-i.i in
    let t = ots_set_of c.args.t in
    let lt : i < t.p = omega arith in
    let own : min i (length c.args.values.now - 1) ≡ i = omega (arith, lt, c.requires.count) in
    let most : last_digit t ≤ 255 = last_digit-byte c.args.t in
    let next : get_or c.walk_all.new.ends i [] ≡ end_from t id.i id.q c.args.digits.now c.args.values.now i
    = c.walk_all.ensures i lt
    ∙ lane-from_digit id.i id.q i (slice_index c.args.digits.now i) (last_digit t) _ _ _ _ refl
    (c.steps_from.ensures i lt)
    (ap (λ j. get_or c.args.values.now j []) own) (c.requires.limit i lt) most in
    holds-more _ id.i id.q _ i next (c.update-in-loop-i.ensures _ c.loop-i.invariant)

pub returns : goal.returns
returns c = c.finalize.ensures _ c.loop-i.invariant ∙ all-ends _ _ _ c.loop-i.i _ (omega arith)
