use Rattle.std.proofs.Common.{subst, sym, Ok, ◌≡◌, ◌++◌, ◌+◌, ◌≤◌, arith}
use Rattle.lms_spec.specs.Hss.{capacity_of}
use Rattle.lms_hss.specs.Keys.{hss_key_of}
use Rattle.lms_book.specs.Books.{capacity}
use Rattle.lms_commands.specs.Logs.{KeyState, state_of}
use Rattle.lms_commands.specs.Watching.{FailsToNote, UnsignedWatched, notes, watch_of}
use Rattle.lms_signature_commands.proofs.Logged.{log_signed, log_unnoted, log_unsigned}
use Rattle.lms_commands.proofs.Failing.{handed_on}
use Rattle.lms_commands.proofs.Signings.{just_opened}
use Rattle.lms_world.proofs.Following.{both_follow, one_call, one_more, then_nothing}
use Rattle.lms_signature_commands.proofs.sign.sign_opened.Goals as goal

pub note-requires-clause-within : goal.note-requires-clause-within
note-requires-clause-within g c =
    let book = c.args.opened.0 in
    let within : book.base + 1 ≤ capacity book =
    omega (arith, c.in-Ok.ensures.reserved.within, (just_opened book c.requires.fresh).used) in
    λ lifetimes outlive some.
    subst (λ (s : KeyState). s.index + 1 ≤ capacity_of (hss_key_of s.key)) (sym c.image_read-read.ensures) within

pub returns-in_ok-note-in-Ok-clause-logged : goal.returns-in_ok-note-in-Ok-clause-logged
returns-in_ok-note-in-Ok-clause-logged g c =
    let book = c.args.opened.0 in
    let is = c.in-Ok.ensures in
    let back = g.W.World.events c.put_back.new.self in
    let noted = subst (λ (s : KeyState). g.W.World.events c.note.new.world
    ≡ notes 1 (watch_of c.args.opened.1) s.key.i s.index (Ok tt) ++ back) c.image_read-read.ensures
    c.in_ok-note-in-Ok.ensures.noted in
    λ before opens.
    log_signed _ book c.sign_reserved-signed.new.book _ _ _ _ opens
    (just_opened book c.requires.fresh) c.close.ensures.store
    c.put_back.ensures.logged _ _ _ _ _ _ _ _ is.reserved is.index noted c.keep_signers.ensures.logged is.signature

pub returns-in_err-note-in-Ok-clause-log_failed : goal.returns-in_err-note-in-Ok-clause-log_failed
returns-in_err-note-in-Ok-clause-log_failed g c =
    let book = c.args.opened.0 in
    let fault = c.in_err-note-in-Ok.field-0.0 in
    let back = g.W.World.events c.put_back.new.self in
    let fails = subst (λ (s : KeyState). FailsToNote 1 (watch_of c.args.opened.1) s.key.i s.index fault
    back (g.W.World.events c.note.new.world)) c.image_read-read.ensures c.in_err-note-in-Ok.ensures.failed in
    λ before opens.
    handed_on _ _ _ c.from_residual.ensures.1
    (log_unnoted _ book c.sign_reserved-signed.new.book _ _ _ _ opens
    (just_opened book c.requires.fresh) c.close.ensures.store
    c.put_back.ensures.logged fault _ c.in-Ok.ensures.reserved fails)

pub returns-in-Err-clause-log_failed : goal.returns-in-Err-clause-log_failed
returns-in-Err-clause-log_failed g c =
    let book = c.args.opened.0 in
    λ before opens.
    let unsigned = log_unsigned _ book c.sign_reserved-signed.new.book _ _ _ _ opens
    (just_opened book c.requires.fresh) c.close.ensures.store
    c.put_back.ensures.logged c.in-Err.fault _ c.in-Err.ensures.failed c.discard.ensures.unlogged in
    subst (λ fault. UnsignedWatched 1 fault (state_of book) before (g.W.World.events c.discard.new.world))
    (sym c.from.ensures) unsigned

pub returns-in_ok-note-in-Ok-clause-follows : goal.returns-in_ok-note-in-Ok-clause-follows
returns-in_ok-note-in-Ok-clause-follows g c =
    both_follow (both_follow (one_call c.put_back.ensures.logged c.put_back.ensures.acts)
    c.in_ok-note-in-Ok.ensures.follows) c.keep_signers.ensures.follows

pub returns-in_err-note-in-Ok-clause-follows : goal.returns-in_err-note-in-Ok-clause-follows
returns-in_err-note-in-Ok-clause-follows g c =
    both_follow (one_call c.put_back.ensures.logged c.put_back.ensures.acts)
    c.in_err-note-in-Ok.ensures.follows

pub returns-in-Err-clause-follows : goal.returns-in-Err-clause-follows
returns-in-Err-clause-follows g c =
    then_nothing (one_call c.put_back.ensures.logged c.put_back.ensures.acts)
    c.discard.ensures.unlogged c.discard.ensures.same
