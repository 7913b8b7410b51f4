use Rattle.lms_join.proofs.keys.Keys.parse.Goals as goal

pub returns-in_err-top-clause-none : goal.returns-in_err-top-clause-none
returns-in_err-top-clause-none c =
    rw c.from_residual.ensures (λ are. c.in_err-top.ensures.none are.top_levels are.top_key are.top)

pub returns-in_err-signer-clause-none : goal.returns-in_err-signer-clause-none
returns-in_err-signer-clause-none c =
    rw c.from_residual-in_err-signer.ensures
    (λ are. c.in_err-signer.ensures.none are.signer_levels are.signer_key are.signer)
