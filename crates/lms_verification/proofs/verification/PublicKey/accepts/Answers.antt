use Rattle.lms_verification.proofs.Denials.{Decides-never}
use Rattle.lms_verification.proofs.verification.PublicKey.accepts.Goals as goal

pub returns-in_default : goal.returns-in_default
returns-in_default g c = Decides-never (c.in_default.ensures.none c.args.msg.now)
