use Rattle.lms_spec.proofs.DigitValues.{digit-bits}
use Rattle.lms_spec.proofs.laws.digit_bits.Goals as goal

pub returns : goal.returns
returns c = digit-bits
