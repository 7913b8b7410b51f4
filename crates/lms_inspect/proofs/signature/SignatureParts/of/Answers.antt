use Rattle.std.proofs.Common.{◌∙◌, List, ℕ, [], arith, length, subst, sym}
use Rattle.lms_spec.proofs.FirstNumber.{first-number-same, rest-same}
use Rattle.lms_inspect.specs.Levels.{BeginsSigned}
use Rattle.lms_inspect.specs.Signatures.{SaysThrough}
use Rattle.lms_inspect.proofs.Cuts.{level-once}
use Rattle.lms_inspect.proofs.signature.SignatureParts.of.Goals as goal

pub returns-in_default-level_in-clause-none : goal.returns-in_default-level_in-clause-none
returns-in_default-level_in-clause-none c top below is =
    let front = c.in-Some in
    c.in_default-level_in.ensures.none top is.rest
    (subst (λ (t : List ℕ). BeginsSigned top t is.rest)
    (rest-same (length below) front.signed_keys is.signatures front.rest.now (sym is.parts ∙ front.ensures.parts))
    is.signed)

pub returns-in-None-clause-none : goal.returns-in-None-clause-none
returns-in-None-clause-none c top below is =
    let front = c.in-Some in
    let cut = c.in-Some-level_in in
    let both = sym is.parts ∙ front.ensures.parts in
    let signed = subst (λ (t : List ℕ). BeginsSigned top t is.rest)
    (rest-same (length below) front.signed_keys is.signatures front.rest.now both) is.signed in
    let once = level-once top cut.top front.rest.now is.rest cut.rest.now signed cut.ensures.some in
    let count = first-number-same (length below) front.signed_keys is.signatures front.rest.now
    (omega (arith, is.levels)) front.ensures.fits both in
    (rw c.in-None.is at c.in_ok-below.ensures.none) below count
    (subst (λ (t : List ℕ). SaysThrough below t []) once.2 is.through)
