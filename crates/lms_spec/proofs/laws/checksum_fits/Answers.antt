use Rattle.lms_spec.proofs.Sets.{checksum-fits}
use Rattle.lms_spec.proofs.laws.checksum_fits.Goals as goal

pub returns : goal.returns
returns c = checksum-fits
