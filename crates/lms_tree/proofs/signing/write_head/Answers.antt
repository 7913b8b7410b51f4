use Rattle.std.proofs.Common.{◌≡◌, ◌+◌, ◌-◌, ◌++◌, length, take, sym, ◌∙◌, ap, ap₂, arith}
use Rattle.std.proofs.lemmas.List.{take_all}
use Rattle.std.proofs.lemmas.Slice.{take-put_mid}
use Rattle.lms_spec.specs.Bytes.{u32str}
use Rattle.lms_params.specs.LmsType.{lms_set_of}
use Rattle.lms_tree.proofs.signing.write_head.Goals as goal
use borrow.Rule.Slice.PartMut.{put_mid}

pub returns : goal.returns
returns c =
    let ots_end = 4 + c.sig_len-ots_end.result in
    let numbered = c.write_u32.new.buf in
    let ots_part = c.sign_into.new.out in
    let signed = put_mid 4 (ots_end - 4) numbered ots_part in
    let last = c.write_u32-2.new.buf in
    let text = put_mid ots_end (length signed - ots_end) signed last in
    let whole : take (ots_end + 4) text ≡ take ots_end signed ++ last
    = take-put_mid ots_end (length signed - ots_end) signed last (ots_end + 4) (omega arith) (omega arith) in
    let front : take ots_end signed ≡ take 4 numbered ++ ots_part
    = take-put_mid 4 (ots_end - 4) numbered ots_part ots_end (omega arith) (omega arith) in
    let number : take 4 numbered ≡ u32str c.args.q = ap (take 4) c.write_u32.ensures in
    let code : last ≡ u32str (lms_set_of c.args.key.now.lms).code
    = sym (take_all 4 last (omega arith)) ∙ (ap (take 4) c.write_u32-2.ensures ∙ ap u32str c.code.ensures) in
    sym (take_all (ots_end + 4) text (omega arith))
    ∙ (whole ∙ ap₂ (λ x y. x ++ y) (front ∙ ap₂ (λ x y. x ++ y) number c.sign_into.ensures.signature) code)
