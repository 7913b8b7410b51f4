use Rattle.std.proofs.Common.{List, ℕ, inl, inr, refl, subst, sym}
use Rattle.lms_world.proofs.Following.{one_more, then_nothing}
use Rattle.lms_commands.proofs.Failing.{handed_on}
use Rattle.lms_join_commands.specs.JoinLogs.{JoinsParts}
use Rattle.lms_join_commands.specs.Requests.{names_of, parts_of}
use Rattle.lms_join_commands.proofs.Joining.{joined_and_written, joined_not_written}
use Rattle.lms_join_commands.proofs.join.join_signature.Goals as goal

pub returns-in_err-parts-clause-log_failed : goal.returns-in_err-parts-clause-log_failed
returns-in_err-parts-clause-log_failed g c =
    handed_on _ _ _ c.from_residual.ensures.1 (inl c.in_err-parts.ensures.unread)

pub returns-in_err-joined-clause-log_failed : goal.returns-in_err-joined-clause-log_failed
returns-in_err-joined-clause-log_failed g c =
    let last = g.W.World.events c.read_parts.new.world in
    let failed = inl (c.in_err-joined.ensures.unjoined, c.explain_keys.ensures.unlogged) in
    handed_on _ _ _ c.from_residual-in_err-joined.ensures.1
    (inr (parts_of c.in_ok-parts.parts, last, c.in_ok-parts.ensures.logged, failed))

pub returns-in_err-out-clause-log_failed : goal.returns-in_err-out-clause-log_failed
returns-in_err-out-clause-log_failed g c =
    let last = g.W.World.events c.read_parts.new.world in
    let joins = c.in_ok-joined.ensures.joins in
    let failed = inl (inr (joins.endorsed, inr (refl, joins.head)), c.explain_keys.ensures.unlogged) in
    handed_on _ _ _ c.from_residual-in_err-out.ensures.1
    (inr (parts_of c.in_ok-parts.parts, last, c.in_ok-parts.ensures.logged, failed))

pub returns-clause-logged : goal.returns-clause-logged
returns-clause-logged g c =
    let parts = parts_of c.in_ok-parts.parts in
    let joins = subst (λ (bytes : List ℕ). JoinsParts parts bytes)
    (sym c.deref-3.ensures.value) c.in_ok-joined.ensures.joins in
    joined_and_written c.write_file.result (names_of c.args.request.now) parts c.deref-3.result.now _ _ _
    c.in_ok-parts.ensures.logged joins
    (rw (c.in_ok-out.ensures, c.explain_keys.ensures.unlogged) at c.write_file.ensures.logged)

pub returns-clause-log_failed : goal.returns-clause-log_failed
returns-clause-log_failed g c =
    let parts = parts_of c.in_ok-parts.parts in
    let joins = subst (λ (bytes : List ℕ). JoinsParts parts bytes)
    (sym c.deref-3.ensures.value) c.in_ok-joined.ensures.joins in
    joined_not_written c.write_file.result (names_of c.args.request.now) parts c.deref-3.result.now _ _ _
    c.in_ok-parts.ensures.logged joins c.write_file.ensures.refused
    (rw (c.in_ok-out.ensures, c.explain_keys.ensures.unlogged) at c.write_file.ensures.logged)

pub returns-clause-follows : goal.returns-clause-follows
returns-clause-follows g c =
    one_more
    (then_nothing c.read_parts.ensures.follows c.explain_keys.ensures.unlogged c.explain_keys.ensures.same)
    c.write_file.ensures.logged c.write_file.ensures.acts
