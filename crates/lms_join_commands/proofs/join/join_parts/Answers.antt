use Rattle.std.proofs.Common.{◌∙◌, inl, inr, refl, subst, sym}
use Rattle.lms_join.specs.Endorsements.{EndorsementParts, HasMessageHead}
use Rattle.lms_commands.proofs.Failing.{handed_on}
use Rattle.lms_join_commands.specs.JoinLogs.{AreUnendorsed}
use Rattle.lms_join_commands.specs.Requests.{parts_of}
use Rattle.lms_join_commands.proofs.Joining.{Endorsed, joins_parts, judged, same_seen}
use Rattle.lms_join_commands.proofs.join.join_parts.Goals as goal

pub returns-in_err-endorsement-clause-unjoined : goal.returns-in_err-endorsement-clause-unjoined
returns-in_err-endorsement-clause-unjoined c =
    let same = same_seen c.deref.ensures.value c.deref-2.ensures.value c.deref-3.ensures.value in
    let why =
    subst (λ (e : EndorsementParts).
    AreUnendorsed e.top_public e.endorsement e.signer_public c.in_err-endorsement.field-0.0) same
    c.in_err-endorsement.ensures.unendorsed in
    handed_on _ _ _ c.from_residual.ensures.1 (inl why)

pub returns-in_err-joined-clause-unjoined : goal.returns-in_err-joined-clause-unjoined
returns-in_err-joined-clause-unjoined c =
    let given = c.in_ok-endorsement.ensures in
    let seen = same_seen c.deref.ensures.value c.deref-2.ensures.value c.deref-3.ensures.value in
    let endorsed = subst (λ (e : EndorsementParts). Endorsed e) seen given.endorsed in
    let has =
    judged HasMessageHead (parts_of c.args.parts.now) c.in_ok-endorsement.endorsement c.deref-4.result.now
    (given.some ∙ seen) c.deref-4.ensures.value c.in_err-joined.ensures.memory in
    handed_on _ _ _ c.from_residual-in_err-joined.ensures.1 (inr (endorsed, inr (refl, has)))

pub returns-in-Some-clause-joins : goal.returns-in-Some-clause-joins
returns-in-Some-clause-joins c =
    let given = c.in_ok-endorsement.ensures in
    let same = given.some ∙ same_seen c.deref.ensures.value c.deref-2.ensures.value c.deref-3.ensures.value in
    joins_parts (parts_of c.args.parts.now) c.in_ok-endorsement.endorsement c.deref-4.result.now c.in-Some.text.items
    same c.deref-4.ensures.value
    (record {
      endorsed = subst (λ (e : EndorsementParts). Endorsed e) (sym given.some) given.endorsed;
      head = rw c.in-Some.is at c.in_ok-joined.ensures.head;
      bytes = rw c.in-Some.is at c.in_ok-joined.ensures.text;
      accepted = rw c.in-Some.is at c.in_ok-joined.ensures.accepted;
    })

pub returns-in-None-clause-unjoined : goal.returns-in-None-clause-unjoined
returns-in-None-clause-unjoined c =
    let given = c.in_ok-endorsement.ensures in
    let seen = same_seen c.deref.ensures.value c.deref-2.ensures.value c.deref-3.ensures.value in
    let endorsed = subst (λ (e : EndorsementParts). Endorsed e) seen given.endorsed in
    let lacks =
    judged (λ public signature. ¬ HasMessageHead public signature) (parts_of c.args.parts.now) c.in_ok-endorsement.endorsement c.deref-4.result.now
    (given.some ∙ seen) c.deref-4.ensures.value (rw c.in-None.is at c.in_ok-joined.ensures.none) in
    inr (endorsed, inl (refl, lacks))
