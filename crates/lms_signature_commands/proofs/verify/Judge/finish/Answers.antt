use Rattle.std.proofs.Common.{subst}
use Rattle.lms_signature_commands.specs.Judging.{IsOf}
use Rattle.lms_signature_commands.proofs.verify.Judge.finish.Goals as goal

pub returns-in-None : goal.returns-in-None
returns-in-None c public signature message taken =
    subst (λ verifier. IsOf verifier public signature message) c.in-None.is taken message
