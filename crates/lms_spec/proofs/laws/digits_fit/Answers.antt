use Rattle.lms_spec.proofs.DigitValues.{digits-fit}
use Rattle.lms_spec.proofs.laws.digits_fit.Goals as goal

pub returns : goal.returns
returns c = digits-fit
