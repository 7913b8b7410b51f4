use Rattle.std.proofs.Common.{◌∙◌, sym, arith}
use Rattle.std.proofs.lemmas.List.Elements.{All-from_get_or}
use Rattle.lms_spec.proofs.Numbers.{IsByte}
use Rattle.lms_params.proofs.Widths.{digit-byte}
use Rattle.lms_params.proofs.message_digits.digit.Goals as goal

pub returns : goal.returns
returns c =
    let small = All-from_get_or IsByte c.args.bytes.now 0 (λ i h. let byte = c.type_inv.bytes i in omega arith) in
    rw c.w-w.ensures at c.low_bits.ensures ∙ sym (digit-byte c.args.t c.args.bytes.now c.args.i small c.requires.within)
