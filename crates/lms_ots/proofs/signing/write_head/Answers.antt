use Rattle.std.proofs.Common.{◌≡◌, ◌+◌, ◌++◌, length, take, ◌∙◌, ap, ap₂, arith}
use Rattle.std.proofs.lemmas.Slice.{take-put_mid}
use Rattle.lms_spec.specs.Bytes.{u32str}
use Rattle.lms_params.specs.OtsType.{ots_set_of}
use Rattle.lms_ots.proofs.signing.write_head.Goals as goal

pub returns : goal.returns
returns c =
    let code : take 4 c.write_u32.new.buf ≡ u32str (ots_set_of c.args.t).code
    = ap (take 4) c.write_u32.ensures ∙ ap u32str c.code.ensures in
    let long : 36 ≡ 4 + length c.copy_from_slice.new.self = omega arith in
    take-put_mid 4 32 c.write_u32.new.buf c.copy_from_slice.new.self 36 long (omega arith)
    ∙ ap₂ (λ x y. x ++ y) code c.copy_from_slice.ensures.after
