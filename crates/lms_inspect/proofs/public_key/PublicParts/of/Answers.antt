use Rattle.std.proofs.Common.{◌∙◌, subst, sym}
use Rattle.lms_spec.proofs.FirstNumber.{rest-same}
use Rattle.lms_verification.specs.Parts.{IsLmsPublicKey}
use Rattle.lms_inspect.proofs.public_key.PublicParts.of.Goals as goal

pub returns-in_err-top-clause-none : goal.returns-in_err-top-clause-none
returns-in_err-top-clause-none c =
    let front = c.in_ok-levels in
    rw c.from_residual-in_err-top.ensures
    (λ parts is.
    c.in_err-top.ensures.none _ _ _ is.is_key.0
    (subst (IsLmsPublicKey _ _ _ is.is_key.0)
    (rest-same parts.levels front.levels is.key front.rest.now (sym is.text_is ∙ front.ensures.parts)) is.is_key.1))
