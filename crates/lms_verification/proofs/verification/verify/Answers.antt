use Rattle.lms_verification.proofs.Acceptance.{key-of-accepted}
use Rattle.lms_verification.proofs.Denials.{Decides-never}
use Rattle.lms_verification.proofs.verification.verify.Goals as goal

pub returns-in_default : goal.returns-in_default
returns-in_default c = Decides-never (λ a. c.in_default.ensures.none a.lms a.ots a.id a.root
    (key-of-accepted c.args.public.now c.args.msg.now c.args.sig.now a))
