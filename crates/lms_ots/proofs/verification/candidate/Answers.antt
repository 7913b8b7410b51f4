use Rattle.lms_params.specs.OtsType.{ots_set_of}
use Rattle.lms_ots.proofs.verification.candidate.Goals as goal

pub returns-in_err-verifier-clause-none : goal.returns-in_err-verifier-clause-none
returns-in_err-verifier-clause-none c =
    rw c.from_residual.ensures
    (λ k. c.in_err-verifier.ensures.none c.args.msg.now k)

pub returns-clause-some : goal.returns-clause-some
returns-clause-some c =
    let t = ots_set_of c.args.t in
    let id = c.args.id in
    c.finish.ensures t id.i id.q c.args.sig.now c.args.msg.now
    (c.update.ensures t id.i id.q c.args.sig.now _ c.in_ok-verifier.ensures.some)
