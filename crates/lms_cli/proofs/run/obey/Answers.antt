use Rattle.std.proofs.Common.{inl, inr, refl, sym, ⊎_elim, ◌∙◌}
use Rattle.clap.proofs.TakesLemmas.{passed_up}
use Rattle.lms_cli.proofs.SameTexts.{failed_as, inspected_as, joined_as, not_inspected_as, not_joined_as, same_names}
use Rattle.lms_cli.proofs.SameTexts.{signed_as}
use Rattle.lms_cli.proofs.EndorsingFaults.{endorsed_as, unendorsed_as}
use Rattle.lms_cli.proofs.run.obey.Goals as goal

pub returns-in_err-key-in-Keygen-clause-log_failed : goal.returns-in_err-key-in-Keygen-clause-log_failed
returns-in_err-key-in-Keygen-clause-log_failed g c =
    let refused = rw (c.deref.ensures, c.deref-in-Keygen.ensures, c.deref-in-Keygen-2.ensures) at
    c.in_err-key-in-Keygen.ensures.refused in
    rw c.in-Keygen.is (passed_up _ _ _ c.from_residual.ensures.1 (inl (refused, refl, refl)))

pub returns-in_err-sign_file-in-Sign-clause-log_failed : goal.returns-in_err-sign_file-in-Sign-clause-log_failed
returns-in_err-sign_file-in-Sign-clause-log_failed g c =
    let failed = failed_as c.deref-in-Sign-2.ensures c.deref-in-Sign-3.ensures c.deref-in-Sign.ensures
    c.deref-in-Sign-4.ensures c.in_err-sign_file-in-Sign.ensures.log_failed in
    rw c.in-Sign.is (passed_up _ _ _ c.from_residual-in_err-sign_file-in-Sign.ensures.1 failed)

pub returns-in_ok-sign_file-in-Sign-clause-logged : goal.returns-in_ok-sign_file-in-Sign-clause-logged
returns-in_ok-sign_file-in-Sign-clause-logged g c =
    let logged = signed_as c.deref-in-Sign-2.ensures c.deref-in-Sign-3.ensures c.deref-in-Sign.ensures
    c.deref-in-Sign-4.ensures c.in_ok-sign_file-in-Sign.ensures.logged in
    rw c.in-Sign.is (refl, logged)

pub returns-in_err-endorse_key-in-Endorse-clause-log_failed :
    goal.returns-in_err-endorse_key-in-Endorse-clause-log_failed
returns-in_err-endorse_key-in-Endorse-clause-log_failed g c =
    let failed = unendorsed_as c.deref-in-Endorse.ensures c.deref-in-Endorse-2.ensures c.deref-in-Endorse-3.ensures
    c.deref-in-Endorse-4.ensures c.deref-in-Endorse-5.ensures c.in_err-endorse_key-in-Endorse.ensures.log_failed in
    rw c.in-Endorse.is (passed_up _ _ _ c.from_residual-in_err-endorse_key-in-Endorse.ensures.1 failed)

pub returns-in_ok-endorse_key-in-Endorse-clause-logged : goal.returns-in_ok-endorse_key-in-Endorse-clause-logged
returns-in_ok-endorse_key-in-Endorse-clause-logged g c =
    let logged = endorsed_as c.deref-in-Endorse.ensures c.deref-in-Endorse-2.ensures c.deref-in-Endorse-3.ensures
    c.deref-in-Endorse-4.ensures c.deref-in-Endorse-5.ensures c.in_ok-endorse_key-in-Endorse.ensures.logged in
    rw c.in-Endorse.is (refl, logged)

pub returns-in_err-sign_jobs-in-Batch-clause-log_failed : goal.returns-in_err-sign_jobs-in-Batch-clause-log_failed
returns-in_err-sign_jobs-in-Batch-clause-log_failed g c =
    let failed = rw (c.deref-in-Batch.ensures, c.deref-in-Batch-2.ensures) at
    c.in_err-sign_jobs-in-Batch.ensures.log_failed in
    rw c.in-Batch.is (passed_up _ _ _ c.from_residual-in_err-sign_jobs-in-Batch.ensures.1 failed)

pub returns-in_ok-sign_jobs-in-Batch-clause-logged : goal.returns-in_ok-sign_jobs-in-Batch-clause-logged
returns-in_ok-sign_jobs-in-Batch-clause-logged g c =
    let logged = rw (c.deref-in-Batch.ensures, c.deref-in-Batch-2.ensures) at
    c.in_ok-sign_jobs-in-Batch.ensures.logged in
    rw c.in-Batch.is (refl, logged)

pub returns-in_err-serve_jobs-in-Serve-clause-log_failed : goal.returns-in_err-serve_jobs-in-Serve-clause-log_failed
returns-in_err-serve_jobs-in-Serve-clause-log_failed g c =
    let failed = rw (c.deref-in-Serve.ensures, c.deref-in-Serve-2.ensures) at
    c.in_err-serve_jobs-in-Serve.ensures.log_failed in
    rw c.in-Serve.is (passed_up _ _ _ c.from_residual-in_err-serve_jobs-in-Serve.ensures.1 failed)

pub returns-in_ok-serve_jobs-in-Serve-clause-logged : goal.returns-in_ok-serve_jobs-in-Serve-clause-logged
returns-in_ok-serve_jobs-in-Serve-clause-logged g c =
    let logged = rw (c.deref-in-Serve.ensures, c.deref-in-Serve-2.ensures) at
    c.in_ok-serve_jobs-in-Serve.ensures.logged in
    rw c.in-Serve.is (refl, logged)

pub returns-in-Inspect-clause-logged : goal.returns-in-Inspect-clause-logged
returns-in-Inspect-clause-logged g c =
    let old = g.W.World.events c.args.world.now in
    let new = g.W.World.events c.inspect_file.new.world in
    let is = inspected_as c.inspect_file.result c.args.output.now c.inspect_file.new.output old new
    c.deref-in-Inspect.ensures c.inspect_file.ensures.logged in
    rw c.in-Inspect.is is

pub returns-in-Inspect-clause-log_failed : goal.returns-in-Inspect-clause-log_failed
returns-in-Inspect-clause-log_failed g c =
    let old = g.W.World.events c.args.world.now in
    let new = g.W.World.events c.inspect_file.new.world in
    let is = not_inspected_as c.inspect_file.result c.args.output.now c.inspect_file.new.output old new
    c.deref-in-Inspect.ensures c.inspect_file.ensures.log_failed in
    rw c.in-Inspect.is is

pub returns-in_ok-describe-in-Info-clause-logged : goal.returns-in_ok-describe-in-Info-clause-logged
returns-in_ok-describe-in-Info-clause-logged g c =
    let logged = rw c.deref-in-Info.ensures at c.in_ok-describe-in-Info.ensures.logged in
    rw c.in-Info.is (refl, logged)

pub returns-in_ok-watch_state-in-Witness-clause-logged : goal.returns-in_ok-watch_state-in-Witness-clause-logged
returns-in_ok-watch_state-in-Witness-clause-logged g c =
    let logged = rw (c.deref-in-Witness.ensures, c.deref-in-Witness-2.ensures, c.deref-in-Witness-3.ensures) at
    c.in_ok-watch_state-in-Witness.ensures.logged in
    rw c.in-Witness.is (refl, logged)

pub returns-in_err-watch_state-in-Witness-clause-log_failed :
    goal.returns-in_err-watch_state-in-Witness-clause-log_failed
returns-in_err-watch_state-in-Witness-clause-log_failed g c =
    let failed = rw (c.deref-in-Witness.ensures, c.deref-in-Witness-2.ensures, c.deref-in-Witness-3.ensures) at
    c.in_err-watch_state-in-Witness.ensures.log_failed in
    rw c.in-Witness.is (passed_up _ _ _ c.from_residual-in_err-watch_state-in-Witness.ensures.1 failed)

pub returns-in_ok-resume_state-in-Resume-clause-logged : goal.returns-in_ok-resume_state-in-Resume-clause-logged
returns-in_ok-resume_state-in-Resume-clause-logged g c =
    let logged = rw (c.deref-in-Resume.ensures, c.deref-in-Resume-2.ensures) at
    c.in_ok-resume_state-in-Resume.ensures.logged in
    rw c.in-Resume.is (refl, logged)

pub returns-in_err-resume_state-in-Resume-clause-log_failed :
    goal.returns-in_err-resume_state-in-Resume-clause-log_failed
returns-in_err-resume_state-in-Resume-clause-log_failed g c =
    let failed = rw (c.deref-in-Resume.ensures, c.deref-in-Resume-2.ensures) at
    c.in_err-resume_state-in-Resume.ensures.log_failed in
    rw c.in-Resume.is (passed_up _ _ _ c.from_residual-in_err-resume_state-in-Resume.ensures.1 failed)

pub returns-in_err-verdict-in-Verify-clause-log_failed : goal.returns-in_err-verdict-in-Verify-clause-log_failed
returns-in_err-verdict-in-Verify-clause-log_failed g c =
    let failed = rw (c.deref-in-Verify.ensures, c.deref-in-Verify-2.ensures, c.deref-in-Verify-3.ensures) at
    c.in_err-verdict-in-Verify.ensures.log_failed in
    rw c.in-Verify.is (passed_up _ _ _ c.from_residual-in_err-verdict-in-Verify.ensures.1 failed)

pub returns-in_err-make_key-in-Keygen-clause-log_failed : goal.returns-in_err-make_key-in-Keygen-clause-log_failed
returns-in_err-make_key-in-Keygen-clause-log_failed g c =
    let key = rw (c.deref.ensures, c.deref-in-Keygen.ensures, c.deref-in-Keygen-2.ensures) at
    c.in_ok-key-in-Keygen.ensures.key in
    let failed = rw (c.deref-in-Keygen-3.ensures, c.deref-in-Keygen-4.ensures) at
    c.in_err-make_key-in-Keygen.ensures.log_failed in
    rw c.in-Keygen.is (passed_up _ _ _ c.from_residual-in_err-make_key-in-Keygen.ensures.1
    (inr (c.in_ok-key-in-Keygen.key, key, failed)))

pub returns-in_ok-publish_key-in-Public-clause-logged : goal.returns-in_ok-publish_key-in-Public-clause-logged
returns-in_ok-publish_key-in-Public-clause-logged g c =
    let logged = rw (c.deref-in-Public.ensures, c.deref-in-Public-2.ensures) at
    c.in_ok-publish_key-in-Public.ensures.logged in
    rw c.in-Public.is (refl, logged)

pub returns-in_err-publish_key-in-Public-clause-log_failed : goal.returns-in_err-publish_key-in-Public-clause-log_failed
returns-in_err-publish_key-in-Public-clause-log_failed g c =
    let failed = rw (c.deref-in-Public.ensures, c.deref-in-Public-2.ensures) at
    c.in_err-publish_key-in-Public.ensures.log_failed in
    rw c.in-Public.is (passed_up _ _ _ c.from_residual-in_err-publish_key-in-Public.ensures.1 failed)

pub returns-in_err-describe-in-Info-clause-log_failed : goal.returns-in_err-describe-in-Info-clause-log_failed
returns-in_err-describe-in-Info-clause-log_failed g c =
    let failed = rw c.deref-in-Info.ensures at c.in_err-describe-in-Info.ensures.log_failed in
    rw c.in-Info.is (passed_up _ _ _ c.from_residual-in_err-describe-in-Info.ensures.1 failed)

pub returns-in_err-key-in-Keygen-clause-unread : goal.returns-in_err-key-in-Keygen-clause-unread
returns-in_err-key-in-Keygen-clause-unread g c =
    ⊎_elim inl (λ asks. inr (rw c.in-Keygen.is (sym c.deref-in-Keygen.ensures ∙ asks))) c.key_from.ensures.unread

pub returns-in_err-make_key-in-Keygen-clause-unread : goal.returns-in_err-make_key-in-Keygen-clause-unread
returns-in_err-make_key-in-Keygen-clause-unread g c =
    ⊎_elim inl (λ asks. inr (rw c.in-Keygen.is (sym c.deref-in-Keygen.ensures ∙ asks))) c.key_from.ensures.unread

pub returns-in_ok-make_key-in-Keygen-clause-unread : goal.returns-in_ok-make_key-in-Keygen-clause-unread
returns-in_ok-make_key-in-Keygen-clause-unread g c =
    ⊎_elim inl (λ asks. inr (rw c.in-Keygen.is (sym c.deref-in-Keygen.ensures ∙ asks))) c.key_from.ensures.unread

pub returns-in_ok-join_signature-in-Join-clause-logged : goal.returns-in_ok-join_signature-in-Join-clause-logged
returns-in_ok-join_signature-in-Join-clause-logged g c =
    let same = same_names c.deref-in-Join.ensures c.deref-in-Join-2.ensures c.deref-in-Join-3.ensures
    c.deref-in-Join-4.ensures c.deref-in-Join-5.ensures in
    rw c.in-Join.is (refl, refl, joined_as same c.in_ok-join_signature-in-Join.ensures.logged)

pub returns-in_err-join_signature-in-Join-clause-log_failed :
    goal.returns-in_err-join_signature-in-Join-clause-log_failed
returns-in_err-join_signature-in-Join-clause-log_failed g c =
    let same = same_names c.deref-in-Join.ensures c.deref-in-Join-2.ensures c.deref-in-Join-3.ensures
    c.deref-in-Join-4.ensures c.deref-in-Join-5.ensures in
    let failed = not_joined_as same c.in_err-join_signature-in-Join.ensures.log_failed in
    rw c.in-Join.is (passed_up _ _ _ c.from_residual-in_err-join_signature-in-Join.ensures.1 (refl, failed))

pub returns-in_ok-join_public_keys-in-JoinPublic-clause-logged :
    goal.returns-in_ok-join_public_keys-in-JoinPublic-clause-logged
returns-in_ok-join_public_keys-in-JoinPublic-clause-logged g c =
    let logged = rw (c.deref-in-JoinPublic.ensures, c.deref-in-JoinPublic-2.ensures, c.deref-in-JoinPublic-3.ensures) at
    c.in_ok-join_public_keys-in-JoinPublic.ensures.logged in
    rw c.in-JoinPublic.is (refl, refl, logged)

pub returns-in_err-join_public_keys-in-JoinPublic-clause-log_failed :
    goal.returns-in_err-join_public_keys-in-JoinPublic-clause-log_failed
returns-in_err-join_public_keys-in-JoinPublic-clause-log_failed g c =
    let failed = rw (c.deref-in-JoinPublic.ensures, c.deref-in-JoinPublic-2.ensures, c.deref-in-JoinPublic-3.ensures) at
    c.in_err-join_public_keys-in-JoinPublic.ensures.log_failed in
    rw c.in-JoinPublic.is
    (passed_up _ _ _ c.from_residual-in_err-join_public_keys-in-JoinPublic.ensures.1 (refl, failed))
