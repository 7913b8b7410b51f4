use Rattle.std.proofs.Common.{◌∙◌, List, ℕ, ap, arith, subst}
use Rattle.lms_spec.specs.Hss.{HssAccepts}
use Rattle.lms_join.specs.Endorsements.{EndorsementParts, HasMessageHead}
use Rattle.lms_join.proofs.Fields.{cut-by-head, head-of-begun, long-by-head}
use Rattle.lms_join.proofs.endorsement.Endorsement.signatures_in.Goals as goal

pub returns-in_err-_verifier-clause-none : goal.returns-in_err-_verifier-clause-none
returns-in_err-_verifier-clause-none g c =
    let same = c.public-public.ensures ∙ ap (λ (e : EndorsementParts). e.signer_public) c.self.view_is in
    rw c.from_residual.ensures
    (subst (λ (public : List ℕ). HasMessageHead public c.args.signature.now → ⊥) same
    (λ has. c.in_err-_verifier.ensures.no_head has.0 has.1))

pub returns-in_err-_verifier-clause-never : goal.returns-in_err-_verifier-clause-never
returns-in_err-_verifier-clause-never g c =
    let same = c.public-public.ensures ∙ ap (λ (e : EndorsementParts). e.signer_public) c.self.view_is in
    rw c.from_residual.ensures
    (λ message. subst (λ (public : List ℕ). HssAccepts public message c.args.signature.now → ⊥) same
    (c.in_err-_verifier.ensures.none message))

pub returns-in_err-signatures-clause-none : goal.returns-in_err-signatures-clause-none
returns-in_err-signatures-clause-none g c =
    let has = head-of-begun _ _ _ _ c.in_ok-_verifier.ensures.some in
    absurd (omega (arith, long-by-head _ _ has, c.in_err-signatures.ensures.none))

pub returns-in_err-signatures-clause-never : goal.returns-in_err-signatures-clause-never
returns-in_err-signatures-clause-never g c =
    let has = head-of-begun _ _ _ _ c.in_ok-_verifier.ensures.some in
    absurd (omega (arith, long-by-head _ _ has, c.in_err-signatures.ensures.none))

pub returns-clause-head : goal.returns-clause-head
returns-clause-head g c =
    let same = c.public-public.ensures ∙ ap (λ (e : EndorsementParts). e.signer_public) c.self.view_is in
    subst (λ (public : List ℕ). HasMessageHead public c.args.signature.now) same
    (head-of-begun _ _ _ _ c.in_ok-_verifier.ensures.some)

pub returns-clause-some : goal.returns-clause-some
returns-clause-some g c =
    let parts = c.in_ok-signatures in
    cut-by-head parts.field-0-0 c.args.self.now.signer_public c.args.signature.now parts.signatures.now
    parts.ensures.fits parts.ensures.parts (returns-clause-head g c)
