use Rattle.std.proofs.Common.{rules}
use Rattle.lms_params.proofs.lms_type.lms_sig_len.Goals as goal

pub returns : goal.returns
returns c = search rules
