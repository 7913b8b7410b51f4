use Rattle.std.proofs.Common.{◌≡◌, ◌++◌, ◌∙◌, ap, arith}
use Rattle.lms_spec.specs.Bytes.{u32str}
use Rattle.lms_spec.proofs.Lengths.{length-ots}
use Rattle.lms_params.specs.OtsType.{ots_set_of}
use Rattle.lms_ots.proofs.OtsParts.{ots-parts}
use Rattle.lms_ots.proofs.signing.Signature.parse.Goals as goal

pub returns-then-sig-sig_len-clause-none : goal.returns-then-sig-sig_len-clause-none
returns-then-sig-sig_len-clause-none c randomizer values parts =
    omega (arith, length-ots (ots_set_of c.args.t) randomizer values c.args.sig.now parts)

pub returns-clause-some : goal.returns-clause-some
returns-clause-some c =
    let t = ots_set_of c.args.t in
    let rest = c.in_ok-code.rest.now in
    let code : c.in_ok-code.code ≡ t.code = omega arith in
    let cut = c.in_ok-randomizer.ensures.cases in
    ots-parts t c.args.sig.now rest c.in_ok-randomizer.randomizer.now c.in_ok-randomizer.rest.now
    c.as_chunks.result.0.now
    (omega arith) (c.in_ok-code.ensures.parts ∙ ap (λ n. u32str n ++ rest) code) cut.0 cut.1 c.as_chunks.ensures.front
