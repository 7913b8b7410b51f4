use Rattle.std.proofs.Common.{[]}
use Rattle.lms_verification.proofs.Denials.{Decides-never}
use Rattle.lms_hss.proofs.verification.verify_with.Goals as goal

pub returns-in_default : goal.returns-in_default
returns-in_default g c = Decides-never (c.in_default.ensures.none c.args.msg.now)

pub returns : goal.returns
returns g c =
    c.finish.ensures c.args.public.now c.args.sig.now c.args.msg.now
    (c.update.ensures c.args.public.now c.args.sig.now [] c.in-Some.ensures.some)
