use Rattle.std.proofs.Common.{◌≡◌, ◌++◌, take, drop, ◌∙◌, ap, arith}
use Rattle.lms_spec.specs.Bytes.{u32str}
use Rattle.lms_params.specs.LmsType.{lms_set_of}
use Rattle.lms_params.specs.OtsType.{ots_set_of}
use Rattle.lms_verification.proofs.LmsParts.{length-lms_parts, lms-parts}
use Rattle.lms_verification.proofs.verification.Signature.parse.Goals as goal

pub returns-then-sig-lms_sig_len-clause-none : goal.returns-then-sig-lms_sig_len-clause-none
returns-then-sig-lms_sig_len-clause-none c q ots_part path parts =
    omega (arith, length-lms_parts (lms_set_of c.args.lms) (ots_set_of c.args.ots) q ots_part path c.args.sig.now parts)

pub returns-clause-some : goal.returns-clause-some
returns-clause-some c =
    let m = lms_set_of c.args.lms in
    let rest = c.in_ok-q.rest.now in
    let last = c.in_ok-code.rest.now in
    let code : c.in_ok-code.code ≡ m.code = omega arith in
    lms-parts m (ots_set_of c.args.ots) c.in_ok-q.q c.args.sig.now rest c.split_at.result.0.now c.split_at.result.1.now
    last c.as_chunks.result.0.now
    (omega arith) (omega arith) c.in_ok-q.ensures.parts
    (c.split_at.ensures.front ∙ ap (λ n. take n rest) c.sig_len.ensures)
    (c.split_at.ensures.back ∙ ap (λ n. drop n rest) c.sig_len.ensures)
    (c.in_ok-code.ensures.parts ∙ ap (λ n. u32str n ++ last) code) c.as_chunks.ensures.front
