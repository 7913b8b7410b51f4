use Rattle.std.proofs.Common.{rules}
use Rattle.lms_params.proofs.ots_type.OtsType.sig_len.Goals as goal

pub returns : goal.returns
returns c = search rules
