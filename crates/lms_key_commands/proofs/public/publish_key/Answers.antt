use Rattle.std.proofs.Common.{inl, inr, refl, subst, subst₂, sym, List, ℕ}
use Rattle.std.specs.Prelude.{IfErr, OnOk}
use Rattle.std.proofs.lemmas.Result.{IfErr-weaker, on_ok_weaker}
use Rattle.lms_hss.specs.declared.key.HssKey.{HssKey}
use Rattle.lms_world.proofs.Following.{both_follow}
use Rattle.lms_key_commands.specs.KeygenLogs.{capacity_line}
use Rattle.lms_commands.specs.Logs.{FailsToPublish, Publishes}
use Rattle.lms_key_commands.specs.PublicLogs.{FailsToPublishOf, PublishesOf}
use Rattle.lms_commands.proofs.Failing.{handed_on}
use Rattle.lms_key_commands.proofs.public.publish_key.Goals as goal

pub returns-clause-logged : goal.returns-clause-logged
returns-clause-logged g c =
    let last = g.W.World.events c.read_key.new.world in
    let new = g.W.World.events c.publish.new.world in
    let read = c.in_ok-key.ensures.logged in
    on_ok_weaker c.publish.result (λ published. (read.0, last, read.2, published))
    (subst
    (λ (key : HssKey). OnOk c.publish.result
    (PublishesOf key c.args.public.now c.args.output.now c.publish.new.output last new))
    (sym read.1)
    (subst₂
    (λ (public bytes : List ℕ). OnOk c.publish.result
    (Publishes public bytes (capacity_line c.in_ok-key.key) c.args.output.now c.publish.new.output last new))
    c.in_ok-file.ensures c.in_ok-text.ensures c.publish.ensures.published))

pub returns-clause-log_failed : goal.returns-clause-log_failed
returns-clause-log_failed g c =
    let last = g.W.World.events c.read_key.new.world in
    let new = g.W.World.events c.publish.new.world in
    let read = c.in_ok-key.ensures.logged in
    IfErr-weaker c.publish.result _ _ (λ fault fails. inr (read.0, last, read.2, inr fails))
    (subst
    (λ (key : HssKey). IfErr c.publish.result
    (λ fault. FailsToPublishOf key c.args.public.now c.args.output.now c.publish.new.output fault last new))
    (sym read.1)
    (subst₂
    (λ (public bytes : List ℕ). IfErr c.publish.result
    (λ fault. FailsToPublish public bytes
    (capacity_line c.in_ok-key.key) c.args.output.now c.publish.new.output fault last new))
    c.in_ok-file.ensures c.in_ok-text.ensures c.publish.ensures.failed))

pub returns-in_err-key-clause-log_failed : goal.returns-in_err-key-clause-log_failed
returns-in_err-key-clause-log_failed g c =
    handed_on _ _ _ c.from_residual.ensures.1 (inl (c.in_err-key.ensures.unread, refl))

pub returns-in_err-file-clause-log_failed : goal.returns-in_err-file-clause-log_failed
returns-in_err-file-clause-log_failed g c =
    let last = g.W.World.events c.read_key.new.world in
    let read = c.in_ok-key.ensures.logged in
    handed_on _ _ _ c.from_residual-in_err-file.ensures.1 (inr (read.0, last, read.2, inl (refl, refl, refl)))

pub returns-in_err-text-clause-log_failed : goal.returns-in_err-text-clause-log_failed
returns-in_err-text-clause-log_failed g c =
    let last = g.W.World.events c.read_key.new.world in
    let read = c.in_ok-key.ensures.logged in
    handed_on _ _ _ c.from_residual-in_err-text.ensures.1 (inr (read.0, last, read.2, inl (refl, refl, refl)))

pub returns-clause-follows : goal.returns-clause-follows
returns-clause-follows g c = both_follow c.read_key.ensures.follows c.publish.ensures.follows
