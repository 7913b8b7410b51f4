use Rattle.std.proofs.Common.{inl, inr, refl, sym, ap, subst, subst₂, List, ℕ, Ok, ◌≡◌, ◌∙◌, ◌∷◌, ◌++◌}
use Rattle.lms_world.specs.Names.{Bytes}
use Rattle.lms_world.specs.Events.{Read}
use Rattle.lms_commands.specs.Logs.{WorldCalls}
use Rattle.lms_commands.proofs.Failing.{handed_on}
use Rattle.lms_commands.proofs.Logged.{two_calls}
use Rattle.lms_signature_commands.specs.SignLogs.{IsRandomizer}
use Rattle.lms_endorse.specs.Endorsing.{IsJoinedText}
use Rattle.lms_endorse.specs.EndorseLogs.{DeliversEndorsement, LogsUnendorsed, endorsed_lines}
use Rattle.std.proofs.lemmas.Result.{IfErr-weaker, on_ok_weaker}
use Rattle.lms_world.proofs.Following.{one_call, one_more, both_follow}
use Rattle.lms_endorse.proofs.endorse.endorse_key.Goals as goal

-- what was read, by another name of its bytes
read_as : {name : Bytes} {a b : List ℕ} {old new : WorldCalls} → a ≡ b → new ≡ Read name (Ok a) ∷ old
    → new ≡ Read name (Ok b) ∷ old
read_as {name} {a} {b} {old} {new} same is = is ∙ ap (λ (text : List ℕ). Read name (Ok text) ∷ old) same

pub returns-clause-logged : goal.returns-clause-logged
returns-clause-logged g c =
    let before = c.args.output.now in
    let after = c.endorse_locked-done.new.output in
    let order = c.in_ok-order.order in
    let of = c.in_ok-order.ensures.order in
    let last = g.W.World.events c.endorse_locked-done.new.world in
    let read = read_as (sym (of.signer_is ∙ c.as_slice.ensures.value)) c.in_ok-signer.ensures.logged in
    let calls = two_calls _ _ _ _ _ read c.in_ok-lock.ensures.logged in
    on_ok_weaker c.endorse_locked-done.result
    (λ is. (
      order.job.c,
      order.signer.now,
      order.joined,
      last,
      subst (λ (random : List ℕ). IsRandomizer c.args.request.now.random.now random) (sym of.c_is)
          c.in_ok-randomizer.ensures.read,
      subst (λ (joined : ℕ). IsJoinedText c.args.request.now.joined.now joined) (sym of.joined_is)
          c.in_ok-joined.ensures.some,
      (order.key.levels, order.key.lms_key.now, of.order_is.parts),
      subst₂ (λ (out : List ℕ) (log : WorldCalls).
          (delivers : DeliversEndorsement order.job.c order.signer.now order.joined out before log last)
          × (after ≡ before ++ endorsed_lines delivers)) c.in_ok-out.ensures calls is,
      c.unlock.ensures.logged,
    ))
    c.endorse_locked-done.ensures.logged

pub returns-clause-log_failed : goal.returns-clause-log_failed
returns-clause-log_failed g c =
    let before = c.args.output.now in
    let order = c.in_ok-order.order in
    let of = c.in_ok-order.ensures.order in
    let last = g.W.World.events c.endorse_locked-done.new.world in
    let read = read_as (sym (of.signer_is ∙ c.as_slice.ensures.value)) c.in_ok-signer.ensures.logged in
    let calls = two_calls _ _ _ _ _ read c.in_ok-lock.ensures.logged in
    IfErr-weaker c.endorse_locked-done.result _ _
    (λ fault is. inr (inr (inr (inr (inr (inr (
      order.job.c,
      order.signer.now,
      order.joined,
      last,
      subst (λ (random : List ℕ). IsRandomizer c.args.request.now.random.now random) (sym of.c_is)
          c.in_ok-randomizer.ensures.read,
      subst (λ (joined : ℕ). IsJoinedText c.args.request.now.joined.now joined) (sym of.joined_is)
          c.in_ok-joined.ensures.some,
      (order.key.levels, order.key.lms_key.now, of.order_is.parts),
      subst₂ (λ (out : List ℕ) (log : WorldCalls). LogsUnendorsed order.job.c order.signer.now order.joined out before
          c.endorse_locked-done.new.output fault log last) c.in_ok-out.ensures calls is,
      c.unlock.ensures.logged,
    )))))))
    c.endorse_locked-done.ensures.log_failed

pub returns-clause-follows : goal.returns-clause-follows
returns-clause-follows g c =
    one_more (both_follow (one_more (one_call c.in_ok-signer.ensures.logged c.in_ok-signer.ensures.acts)
    c.in_ok-lock.ensures.logged c.in_ok-lock.ensures.acts)
    c.endorse_locked-done.ensures.follows)
    c.unlock.ensures.logged c.unlock.ensures.acts

pub returns-in_err-signer-clause-follows : goal.returns-in_err-signer-clause-follows
returns-in_err-signer-clause-follows g c = one_call c.in_err-signer.ensures.logged c.in_err-signer.ensures.acts

pub returns-in_err-order-clause-follows : goal.returns-in_err-order-clause-follows
returns-in_err-order-clause-follows g c = one_call c.in_ok-signer.ensures.logged c.in_ok-signer.ensures.acts

pub returns-in_err-lock-clause-follows : goal.returns-in_err-lock-clause-follows
returns-in_err-lock-clause-follows g c = one_more (one_call c.in_ok-signer.ensures.logged c.in_ok-signer.ensures.acts)
    c.in_err-lock.ensures.logged c.in_err-lock.ensures.acts

pub returns-in_err-order-clause-log_failed : goal.returns-in_err-order-clause-log_failed
returns-in_err-order-clause-log_failed g c =
    let randomizer = c.in_ok-randomizer.ensures.read in
    handed_on _ _ _ c.from_residual-in_err-order.ensures.1
    (inr (inr (inr (inr (inl (
      c.as_slice.result.now,
      c.in_err-order.ensures.none,
      read_as (sym c.as_slice.ensures.value) c.in_ok-signer.ensures.logged,
      refl,
      (
        (c.in_ok-randomizer.randomizer, randomizer.0, randomizer.1),
        (c.in_ok-joined.joined, c.in_ok-joined.ensures.some),
      ),
    ))))))

pub returns-in_err-lock-clause-log_failed : goal.returns-in_err-lock-clause-log_failed
returns-in_err-lock-clause-log_failed g c =
    let randomizer = c.in_ok-randomizer.ensures.read in
    let order = c.in_ok-order.order in
    let of = c.in_ok-order.ensures.order in
    let read = read_as (sym (of.signer_is ∙ c.as_slice.ensures.value)) c.in_ok-signer.ensures.logged in
    handed_on _ _ _ c.from_residual-in_err-lock.ensures.1
    (inr (inr (inr (inr (inr (inl (
      order.signer.now,
      c.in_err-lock.ensures.refused,
      (order.key.levels, order.key.lms_key.now, of.order_is.parts),
      two_calls _ _ _ _ _ read c.in_err-lock.ensures.logged,
      refl,
      (
        (c.in_ok-randomizer.randomizer, randomizer.0, randomizer.1),
        (c.in_ok-joined.joined, c.in_ok-joined.ensures.some),
      ),
    )))))))
