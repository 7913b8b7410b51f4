use Rattle.std.proofs.Common.{◌↔◌, ◌-◌, ◌++◌, sym, ◌∙◌, ap, subst}
use Rattle.lms_spec.specs.Bytes.{u32str}
use Rattle.lms_spec.specs.Hss.{HssAccepts}
use Rattle.lms_join.specs.Joined.{count_of, joined_public}
use Rattle.lms_join.proofs.Fields.{signer-count, signature-of-fields, exact-of-fields}
use Rattle.lms_join.proofs.endorsement.Endorsement.join.Goals as goal

pub returns-clause-text : goal.returns-clause-text
returns-clause-text g c =
    let inside = c.self.inside in
    let keys = inside.keys in
    let it = c.args.self.now in
    c.in_ok-text.ensures
    ∙ signature-of-fields keys.top.levels keys.signer.levels keys.top.lms_key.now inside.signatures.now
    keys.signer.lms_key.now it
    (count_of it.signer_public - 1) c.args.signature.now c.in-Some.signatures.now
    c.self.invariant c.self.view_is c.in-Some.ensures.some

pub returns-clause-accepted : goal.returns-clause-accepted
returns-clause-accepted g c message =
    let inside = c.self.inside in
    let keys = inside.keys in
    let it = c.args.self.now in
    let text = c.in-Some.signatures.now in
    let levels = signer-count keys.top.levels keys.signer.levels keys.top.lms_key.now inside.signatures.now
    keys.signer.lms_key.now it
    c.self.invariant c.self.view_is in
    subst (λ text. HssAccepts (joined_public it.top_public it.signer_public) message text
    ↔ HssAccepts it.signer_public message c.args.signature.now)
    (sym (returns-clause-text g c))
    (exact-of-fields keys.top.levels keys.signer.levels keys.top.lms_key.now inside.signatures.now
    keys.signer.lms_key.now it
    c.args.signature.now text message c.self.invariant c.self.view_is
    (c.in-Some.ensures.some ∙ ap (λ n. u32str (n - 1) ++ text) levels))
