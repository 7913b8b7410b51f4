use Rattle.std.proofs.Common.{inl, inr, length, refl, ◌≡◌}
use Rattle.std.proofs.lemmas.Result.{IfErr-weaker, IfOk-weaker}
use Rattle.lms_commands.specs.Logs.{state_of}
use Rattle.lms_commands.specs.Watching.{watch_of}
use Rattle.lms_batch_commands.specs.BatchLogs.{LogsBatch, LogsNoBatch}
use Rattle.lms_batch_commands.specs.Batches.{LeavesOpened, SignsOpened}
use Rattle.lms_commands.proofs.Failing.{handed_on}
use Rattle.lms_world.proofs.Following.{both_follow}
use Rattle.lms_batch_commands.proofs.batch.sign_stored.Goals as goal

pub returns-in_err-book-clause-log_failed : goal.returns-in_err-book-clause-log_failed
returns-in_err-book-clause-log_failed g c =
    handed_on _ _ _ c.from_residual.ensures.1 (inl (c.in_err-book.ensures.unopened, refl))

pub returns-clause-logged : goal.returns-clause-logged
returns-clause-logged g c =
    let old = g.W.World.events c.args.world.now in
    let opened = g.W.World.events c.open_watched.new.world in
    let new = g.W.World.events c.sign_opened.new.world in
    let before = g.I.Read.remaining c.args.input.now in
    let after = g.I.Read.remaining c.sign_opened.new.input in
    IfOk-weaker c.sign_opened.result
    (λ signed. SignsOpened (watch_of c.in_ok-book.witness) c.in_ok-book.book before after signed opened new)
    (λ signed. (signs : LogsBatch before after signed.batch old new) × (signed.asked ≡ length signs.jobs))
    (λ signed is. let signs = is old c.in_ok-book.ensures.logged in (signs.0, signs.2))
    c.sign_opened.ensures.logged

pub returns-clause-log_failed : goal.returns-clause-log_failed
returns-clause-log_failed g c =
    let old = g.W.World.events c.args.world.now in
    let opened = g.W.World.events c.open_watched.new.world in
    let new = g.W.World.events c.sign_opened.new.world in
    let before = g.I.Read.remaining c.args.input.now in
    let after = g.I.Read.remaining c.sign_opened.new.input in
    IfErr-weaker c.sign_opened.result
    (λ fault. LeavesOpened (watch_of c.in_ok-book.witness) c.in_ok-book.book before after fault opened new)
    (λ fault. LogsNoBatch before after fault old new)
    (λ fault is. inr (state_of c.in_ok-book.book, is old c.in_ok-book.ensures.logged))
    c.sign_opened.ensures.log_failed

pub returns-clause-follows : goal.returns-clause-follows
returns-clause-follows g c = both_follow c.in_ok-book.ensures.follows c.sign_opened.ensures.follows
