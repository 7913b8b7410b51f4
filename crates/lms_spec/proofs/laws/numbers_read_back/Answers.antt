use Rattle.lms_spec.proofs.Numbers.{number_of-u16, number_of-u32}
use Rattle.lms_spec.proofs.laws.numbers_read_back.Goals as goal

pub returns : goal.returns
returns c = (number_of-u16, number_of-u32)
