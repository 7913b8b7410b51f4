use Rattle.std.proofs.Common.{◌∙◌, ap₂, inl, inr, refl, subst₂, List, ℕ}
use Rattle.lms_join.specs.Joined.{joined_public}
use Rattle.lms_join.specs.Keys.{AreJoinable}
use Rattle.lms_world.proofs.Following.{one_more, then_nothing}
use Rattle.lms_commands.proofs.Failing.{handed_on}
use Rattle.lms_join_commands.proofs.Joining.{key_not_written, key_written}
use Rattle.lms_join_commands.proofs.join_public.join_public_keys.Goals as goal

pub returns-in_err-top_public-clause-log_failed : goal.returns-in_err-top_public-clause-log_failed
returns-in_err-top_public-clause-log_failed g c =
    handed_on _ _ _ c.from_residual.ensures.1 (inl c.in_err-top_public.ensures.unread)

pub returns-in_err-key-clause-log_failed : goal.returns-in_err-key-clause-log_failed
returns-in_err-key-clause-log_failed g c =
    let last = g.W.World.events c.read_two.new.world in
    let apart = subst₂ (λ (a b : List ℕ). ¬ AreJoinable a b) c.deref-3.ensures.value c.deref-4.ensures.value
    c.in_err-key.ensures.unjoined in
    handed_on _ _ _ c.from_residual-in_err-key.ensures.1
    (inr (
      _,
      _,
      last,
      c.in_ok-top_public.ensures.logged,
      inl (
        inl (c.in_err-key.ensures.bad, apart),
        c.explain_keys.ensures.unlogged,
      ),
    ))

pub returns-in_err-file-clause-log_failed : goal.returns-in_err-file-clause-log_failed
returns-in_err-file-clause-log_failed g c =
    let last = g.W.World.events c.read_two.new.world in
    let joinable = subst₂ (λ (a b : List ℕ). AreJoinable a b) c.deref-3.ensures.value c.deref-4.ensures.value
    c.in_ok-key.ensures.joinable in
    handed_on _ _ _ c.from_residual-in_err-file.ensures.1
    (inr (
      _,
      _,
      last,
      c.in_ok-top_public.ensures.logged,
      inl (
        inr (refl, joinable),
        c.explain_keys.ensures.unlogged,
      ),
    ))

pub returns-clause-logged : goal.returns-clause-logged
returns-clause-logged g c =
    let joinable = subst₂ (λ (a b : List ℕ). AreJoinable a b) c.deref-3.ensures.value c.deref-4.ensures.value
    c.in_ok-key.ensures.joinable in
    let is = c.in_ok-key.ensures.joined
    ∙ ap₂ (λ (a b : List ℕ). joined_public a b) c.deref-3.ensures.value c.deref-4.ensures.value in
    key_written c.write_flushed.result _ _ _ _ _ _ _ _ _ c.in_ok-top_public.ensures.logged joinable is
    (rw (c.in_ok-file.ensures, c.explain_keys.ensures.unlogged) at c.write_flushed.ensures.logged)

pub returns-clause-log_failed : goal.returns-clause-log_failed
returns-clause-log_failed g c =
    let joinable = subst₂ (λ (a b : List ℕ). AreJoinable a b) c.deref-3.ensures.value c.deref-4.ensures.value
    c.in_ok-key.ensures.joinable in
    let is = c.in_ok-key.ensures.joined
    ∙ ap₂ (λ (a b : List ℕ). joined_public a b) c.deref-3.ensures.value c.deref-4.ensures.value in
    key_not_written c.write_flushed.result _ _ _ _ _ _ _ _ _ c.in_ok-top_public.ensures.logged joinable is
    c.write_flushed.ensures.refused
    (rw (c.in_ok-file.ensures, c.explain_keys.ensures.unlogged) at c.write_flushed.ensures.logged)

pub returns-clause-follows : goal.returns-clause-follows
returns-clause-follows g c =
    one_more
    (then_nothing c.read_two.ensures.follows c.explain_keys.ensures.unlogged c.explain_keys.ensures.same)
    c.write_flushed.ensures.logged c.write_flushed.ensures.acts
