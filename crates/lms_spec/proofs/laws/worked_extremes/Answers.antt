use Rattle.std.proofs.Common.{refl}
use Rattle.lms_spec.specs.Bytes.{number_of}
use Rattle.lms_spec.specs.Digits.{digit, checksum, digits_of}
use Rattle.lms_spec.proofs.laws.worked_extremes.Goals as goal

pub returns : goal.returns
unfolding number_of digit checksum digits_of
returns c = record {
  zeros_w1 = refl;
  zeros_w2 = refl;
  zeros_w4 = refl;
  zeros_w8 = refl;
  ones_w1 = refl;
  ones_w2 = refl;
  ones_w4 = refl;
  ones_w8 = refl;
}
