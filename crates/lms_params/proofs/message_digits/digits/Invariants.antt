use Rattle.std.proofs.Common.{◌≡◌}
use Rattle.lms_spec.specs.Digits.{digit}
use Rattle.lms_params.specs.OtsType.{ots_set_of}
use Rattle.lms_params.proofs.Filling.{filled}
use Rattle.lms_params.proofs.message_digits.digits.Given as goal

abbrev pub invariant-loop-i : goal.invariant-loop-i
invariant-loop-i l = l.digits ≡ filled (λ i. digit l.text i (ots_set_of l.t).w) 265 l.i
