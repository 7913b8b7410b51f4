use Rattle.std.proofs.Common.{subst}
use Rattle.lms_params.specs.LmsType.{lms_set_of}
use Rattle.lms_params.specs.OtsType.{ots_set_of}
use Rattle.lms_verification.specs.Parts.{IsLmsPublicKey}
use Rattle.lms_verification.proofs.Acceptance.{parts-of-accepted, candidate-of-accepted}
use Rattle.lms_verification.proofs.SameParts.{parts-under, one-time-parts-under}
use Rattle.lms_verification.proofs.verification.PublicKey.verifier.Goals as goal

pub returns-in_err-sig-clause-none : goal.returns-in_err-sig-clause-none
returns-in_err-sig-clause-none c =
    let key = c.self.inside in
    let m = lms_set_of key.lms in
    let t = ots_set_of key.ots in
    let parts = subst (IsLmsPublicKey m t key.i key.root) c.self.view_is c.self.invariant in
    rw c.from_residual.ensures
    (λ message a. c.in_err-sig.ensures.none a.q a.ots_part a.path
    (parts-of-accepted m t key.i key.root c.args.self.now message c.args.sig.now parts a).0)

pub returns-in_err-ots-clause-none : goal.returns-in_err-ots-clause-none
returns-in_err-ots-clause-none c =
    let key = c.self.inside in
    let m = lms_set_of key.lms in
    let t = ots_set_of key.ots in
    let parts = subst (IsLmsPublicKey m t key.i key.root) c.self.view_is c.self.invariant in
    let sig = c.in_ok-sig.sig in
    rw c.from_residual-in_err-ots.ensures
    (λ message a.
    let k = candidate-of-accepted m t key.i key.root c.args.self.now sig.q sig.ots_part.now sig.path.now
    message c.args.sig.now parts c.in_ok-sig.ensures.some a in
    c.in_err-ots.ensures.none message k.0 k.1)

pub returns-in_err-sig-clause-no_parts : goal.returns-in_err-sig-clause-no_parts
returns-in_err-sig-clause-no_parts c =
    let key = c.self.inside in
    let m = lms_set_of key.lms in
    let t = ots_set_of key.ots in
    let parts = subst (IsLmsPublicKey m t key.i key.root) c.self.view_is c.self.invariant in
    rw c.from_residual.ensures
    (λ has. c.in_err-sig.ensures.none has.q has.ots_part has.path
    (parts-under m t key.i key.root c.args.self.now c.args.sig.now parts has).0)

pub returns-in_err-ots-clause-no_parts : goal.returns-in_err-ots-clause-no_parts
returns-in_err-ots-clause-no_parts c =
    let key = c.self.inside in
    let m = lms_set_of key.lms in
    let t = ots_set_of key.ots in
    let parts = subst (IsLmsPublicKey m t key.i key.root) c.self.view_is c.self.invariant in
    let sig = c.in_ok-sig.sig in
    rw c.from_residual-in_err-ots.ensures
    (λ has. c.in_err-ots.ensures.no_parts has.randomizer has.values
    (one-time-parts-under m t key.i key.root c.args.self.now sig.q sig.ots_part.now sig.path.now c.args.sig.now
    parts c.in_ok-sig.ensures.some has))
