use Rattle.std.proofs.Common.{rules}
use Rattle.lms_image.proofs.bytes.ImageBytes.as_slice.Goals as goal

pub returns-clause-bytes : goal.returns-clause-bytes
returns-clause-bytes c = search rules
