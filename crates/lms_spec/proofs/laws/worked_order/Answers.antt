use Rattle.std.proofs.Common.{refl}
use Rattle.lms_spec.specs.Bytes.{number_of}
use Rattle.lms_spec.specs.Digits.{digit, checksum, digits_of}
use Rattle.lms_spec.proofs.laws.worked_order.Goals as goal

pub returns : goal.returns
unfolding number_of digit checksum digits_of
returns c = record { bytes_w8 = refl; halves_w4 = refl; quarters_w2 = refl; bits_w1 = refl }
