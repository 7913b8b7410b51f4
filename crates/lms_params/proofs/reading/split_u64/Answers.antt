use Rattle.std.proofs.Common.{arith}
use Rattle.lms_spec.proofs.FirstNumber.{eight-and-rest}
use Rattle.lms_params.proofs.reading.split_u64.Goals as goal

pub returns-clause-parts : goal.returns-clause-parts
returns-clause-parts c =
    let cut = c.in_ok-number.ensures.cases in
    eight-and-rest c.args.bytes.now c.in_ok-number.number.now c.in_ok-number.rest.now c.from_be_bytes.result
    (λ i. let byte = c.type_inv.bytes i in omega arith) (omega arith) cut.0 cut.1 c.from_be_bytes.ensures
