use Rattle.std.proofs.Common.{rules}
use Rattle.lms_batch.proofs.service.SigningService.key.Goals as goal

pub returns : goal.returns
returns g c = search rules
