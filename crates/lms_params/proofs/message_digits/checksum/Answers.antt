use Rattle.std.proofs.Common.{ℕ, ◌≡◌, ◌-◌, ◌*◌, ◌^◌, ◌<◌, map, sum, ◌/◌, ◌%◌, ◌∙◌, ap, ap₂, arith, mod-eq_of_lt}
use Rattle.lms_spec.specs.Bytes.{below}
use Rattle.lms_spec.specs.Digits.{digit, checksum}
use Rattle.lms_spec.proofs.Below.{sum-below-push}
use Rattle.lms_spec.proofs.Sets.{checksum-fits}
use Rattle.lms_params.specs.OtsType.{ots_set_of}
use Rattle.lms_params.proofs.Widths.{digit-lt, last_value, hash_digits}
use Rattle.lms_params.proofs.KnownSets.{known_ots_set}
use Rattle.lms_params.proofs.message_digits.checksum.Goals as goal

pub overflow_sub-last_digit : goal.overflow_sub-last_digit
overflow_sub-last_digit c =
    let w = (ots_set_of c.args.t).w in
    let lt : digit c.args.q.now c.loop-i.i w < 2 ^ w = digit-lt c.args.q.now c.loop-i.i w in
    let last = last_value c.args.t in
    omega arith

pub loop-i-preserved : goal.loop-i-preserved
loop-i-preserved c =
    let t = ots_set_of c.args.t in
    let more = sum-below-push (λ i. 2 ^ t.w - 1 - digit c.args.q.now i t.w) c.loop-i.i in
    let last = last_value c.args.t in
    (omega arith, omega arith)

pub returns : goal.returns
unfolding checksum
returns c =
    let t = ots_set_of c.args.t in
    let hash = c.args.q.now in
    let f : ℕ → ℕ = λ i. 2 ^ t.w - 1 - digit hash i t.w in
    let count : c.loop-i.i ≡ 256 / t.w = omega (arith, hash_digits c.args.t) in
    let whole : c.loop-i.sum ≡ sum (map f (below (256 / t.w))) =
    c.loop-i.invariant.0 ∙ ap (λ n. sum (map f (below n))) count in
    ap₂ (λ s k. s * 2 ^ k % 65536) whole c.ls.ensures ∙ mod-eq_of_lt (checksum-fits t hash (known_ots_set c.args.t))
