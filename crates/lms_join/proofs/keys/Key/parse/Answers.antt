use Rattle.std.proofs.Common.{sym, ◌∙◌, arith, subst}
use Rattle.lms_spec.proofs.FirstNumber.{rest-same}
use Rattle.lms_verification.specs.Parts.{HasSignaturesOf}
use Rattle.lms_verification.proofs.LmsParts.{length-lms_key}
use Rattle.lms_join.proofs.keys.Key.parse.Goals as goal

pub returns-in_err-_length-clause-none : goal.returns-in_err-_length-clause-none
returns-in_err-_length-clause-none c =
    let front = c.in_ok-levels in
    rw c.from_residual-in_err-_length.ensures
    (λ levels lms_key is.
    c.in_err-_length.ensures.none is.signature_length
    (subst (HasSignaturesOf is.signature_length)
    (rest-same levels front.levels lms_key front.rest.now (sym is.parts ∙ front.ensures.parts)) is.known))

pub returns-in_err-lms_key-clause-none : goal.returns-in_err-lms_key-clause-none
returns-in_err-lms_key-clause-none c =
    let has = c.in_ok-_length.ensures.some in
    absurd (omega (
      arith,
      c.in_err-lms_key.ensures.cases,
      length-lms_key has.lms has.ots has.id has.root c.in_ok-levels.rest.now has.parts,
    ))
