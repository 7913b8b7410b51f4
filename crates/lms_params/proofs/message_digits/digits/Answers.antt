use Rattle.std.proofs.Common.{ℕ, ◌≡◌, slice_set, ◌∙◌, ap₂, arith}
use Rattle.lms_spec.specs.Digits.{digit, digits_of}
use Rattle.lms_params.specs.OtsType.{ots_set_of}
use Rattle.lms_params.proofs.Filling.{filled, set-filled}
use Rattle.lms_params.proofs.Widths.{chains_limited}
use Rattle.lms_params.proofs.message_digits.digits.Goals as goal

pub loop-i-preserved : goal.loop-i-preserved
loop-i-preserved c =
    let value : ℕ → ℕ = λ i. digit c.with_checksum-text.result i (ots_set_of c.args.t).w in
    let limit = chains_limited c.args.t in
    ap₂ (λ xs v. slice_set xs c.loop-i.i v) c.loop-i.invariant c.digit.ensures
    ∙ set-filled value 265 c.loop-i.i (omega arith)

pub returns : goal.returns
unfolding digits_of
returns c =
    let text = c.with_checksum-text.ensures in
    let last : c.loop-i.i ≡ (ots_set_of c.args.t).p = omega arith in
    c.loop-i.invariant ∙ ap₂ (λ text n. filled (λ i. digit text i (ots_set_of c.args.t).w) 265 n) text last
