use Rattle.std.proofs.Common.{Ok, Err, ◌≡◌, ◌++◌, ◌+◌, ◌≤◌, ℕ, List, Option, subst, sym}
use Rattle.std.specs.Prelude.{IfErr, IfOk, Result}
use Rattle.lms_book.specs.States.{BookState}
use Rattle.lms_lines.specs.declared.signing.SignedJobs.{SignedJobs}
use Rattle.lms_commands.specs.declared.fault.Fault.{Fault}
use Rattle.lms_batch_commands.specs.SharedBooks.{IsRefusedBy, IsSignedByBook}
use Rattle.lms_spec.specs.Hss.{capacity_of}
use Rattle.lms_hss.specs.Keys.{hss_key_of}
use Rattle.lms_commands.specs.Logs.{KeyState}
use Rattle.lms_commands.specs.Watching.{FailsToNote, notes, watch_of}
use Rattle.lms_batch_commands.proofs.Batches.{log_batch, log_refused, log_unnoted, uses_some}
use Rattle.lms_commands.proofs.Failing.{handed_on}
use Rattle.lms_commands.proofs.Signings.{just_opened}
use Rattle.lms_world.proofs.Following.{both_follow, one_call, then_nothing}
use Rattle.lms_batch_commands.proofs.batch.sign_opened.Goals as goal

-- what is known of an answer that was compared
signed_so : (answer : Result SignedJobs Fault) (book left : BookState) (before after : Option (List ℕ))
    (signed : SignedJobs) → answer ≡ Ok signed → IfOk answer (λ s. IsSignedByBook book before after s left)
    → IsSignedByBook book before after signed left
signed_so answer book left before after signed is all =
    subst (λ (r : Result SignedJobs Fault). IfOk r (λ s. IsSignedByBook book before after s left)) is all

refused_so : (answer : Result SignedJobs Fault) (book left : BookState) (before after : Option (List ℕ))
    (fault : Fault) → answer ≡ Err fault → IfErr answer (λ f. IsRefusedBy book before after f left)
    → IsRefusedBy book before after fault left
refused_so answer book left before after fault is all =
    subst (λ (r : Result SignedJobs Fault). IfErr r (λ f. IsRefusedBy book before after f left)) is all

pub note-requires-clause-within : goal.note-requires-clause-within
note-requires-clause-within g c = λ lifetimes outlive some.
    let within = uses_some c.args.book _ (just_opened c.args.book c.requires.fresh) _ _ c.in-Ok.signed
    (signed_so _ _ _ _ _ _ c.in-Ok.is c.sign_by_book-answer.ensures.signed) some in
    subst (λ (s : KeyState). s.index + c.in-Ok.signed.asked ≤ capacity_of (hss_key_of s.key))
    (sym c.image_read-read.ensures) within

pub returns-in_ok-note-in-Ok-clause-logged : goal.returns-in_ok-note-in-Ok-clause-logged
returns-in_ok-note-in-Ok-clause-logged g c =
    let back = g.W.World.events c.put_back.new.self in
    let noted = subst (λ (s : KeyState). g.W.World.events c.note.new.world
    ≡ notes c.in-Ok.signed.asked (watch_of c.args.witness) s.key.i s.index (Ok tt) ++ back) c.image_read-read.ensures
    c.in_ok-note-in-Ok.ensures.noted in
    λ old opens. log_batch _ c.args.book _ _ old _ _ opens (just_opened c.args.book c.requires.fresh)
    c.close.ensures.store c.put_back.ensures.logged _ _ c.in-Ok.signed _
    (signed_so _ _ _ _ _ _ c.in-Ok.is c.sign_by_book-answer.ensures.signed) noted

pub returns-in_err-note-in-Ok-clause-log_failed : goal.returns-in_err-note-in-Ok-clause-log_failed
returns-in_err-note-in-Ok-clause-log_failed g c =
    let fault = c.in_err-note-in-Ok.field-0.0 in
    let back = g.W.World.events c.put_back.new.self in
    let fails = subst
    (λ (s : KeyState). FailsToNote c.in-Ok.signed.asked (watch_of c.args.witness) s.key.i s.index fault
    back (g.W.World.events c.note.new.world)) c.image_read-read.ensures c.in_err-note-in-Ok.ensures.failed in
    handed_on _ _ _ c.from_residual.ensures.1
    (λ old opens. log_unnoted _ c.args.book _ _ old _ _ opens (just_opened c.args.book c.requires.fresh)
    c.close.ensures.store c.put_back.ensures.logged _ _ c.in-Ok.signed fault _
    (signed_so _ _ _ _ _ _ c.in-Ok.is c.sign_by_book-answer.ensures.signed) fails)

pub returns-in-Err-clause-log_failed : goal.returns-in-Err-clause-log_failed
returns-in-Err-clause-log_failed g c =
    λ old opens. log_refused _ c.args.book _ _ old _ _ opens (just_opened c.args.book c.requires.fresh)
    c.close.ensures.store c.put_back.ensures.logged _ _ c.in-Err.fault _
    (refused_so _ _ _ _ _ _ c.in-Err.is c.sign_by_book-answer.ensures.refused)
    c.discard.ensures.unlogged

pub returns-in_ok-note-in-Ok-clause-follows : goal.returns-in_ok-note-in-Ok-clause-follows
returns-in_ok-note-in-Ok-clause-follows g c =
    both_follow (one_call c.put_back.ensures.logged c.put_back.ensures.acts) c.in_ok-note-in-Ok.ensures.follows

pub returns-in_err-note-in-Ok-clause-follows : goal.returns-in_err-note-in-Ok-clause-follows
returns-in_err-note-in-Ok-clause-follows g c =
    both_follow (one_call c.put_back.ensures.logged c.put_back.ensures.acts) c.in_err-note-in-Ok.ensures.follows

pub returns-in-Err-clause-follows : goal.returns-in-Err-clause-follows
returns-in-Err-clause-follows g c =
    then_nothing (one_call c.put_back.ensures.logged c.put_back.ensures.acts)
    c.discard.ensures.unlogged c.discard.ensures.same
