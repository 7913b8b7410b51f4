use Rattle.std.proofs.Common.{sym, subst, refl, inl, inr, ⊎_elim, ℕ, List, Option, Ok, Err, ◌≡◌, ◌∷◌}
use Rattle.std.proofs.lemmas.Result.{IfErr-weaker, on_ok_weaker}
use Rattle.lms_join.specs.Joined.{after_count}
use Rattle.lms_world.specs.Events.{NodesRead, Writing, Written, output_name}
use Rattle.lms_world.specs.Names.{Bytes}
use Rattle.lms_commands.specs.Logs.{WorldCalls, write_cause}
use Rattle.lms_commands.proofs.Failing.{handed_on}
use Rattle.lms_world.proofs.Following.{one_call, both_follow}
use Rattle.lms_signature_commands.specs.SignLogs.{WritesSignature}
use Rattle.lms_endorse.specs.Endorsing.{MayEndorse}
use Rattle.lms_endorse.specs.EndorseLogs.{LogsEndorsed, LogsNotEndorsed}
use Rattle.lms_endorse.proofs.endorse.endorse_locked.Goals as goal

-- a key was endorsed, and its endorsement is written, or that fails
module _ (random signer : List ℕ) (joined : ℕ) (out : Bytes) (nodes : Option (List ℕ)) (index : ℕ)
    (signature : List ℕ) (old asked signed : WorldCalls) (asked_is : asked ≡ NodesRead nodes ∷ old)
    (signs : LogsEndorsed nodes random signer joined index signature asked signed) where
  abbrev from_nodes : LogsEndorsed nodes random signer joined index signature (NodesRead nodes ∷ old) signed
  from_nodes =
      subst (λ (log : WorldCalls). LogsEndorsed nodes random signer joined index signature log signed) asked_is signs

  abbrev writes_so : (answer : Writing)
      → (writes : WritesSignature random (after_count signer) out answer old (Written out signature answer ∷ signed))
      × MayEndorse writes.signs.state.key signer joined
  writes_so answer = (
    record {
      nodes = nodes;
      index = index;
      signature = signature;
      until_signed = signed;
      signs = from_nodes.0;
      writes = refl;
    },
    from_nodes.1,
  )

pub returns-clause-logged : goal.returns-clause-logged
returns-clause-logged g c =
    let order = c.args.order.now in
    let is = c.in_ok-signed.signed in
    let signed = g.W.World.events c.endorse_stored.new.world in
    let asked = g.W.World.events c.kept_text-kept.new.world in
    let signs = subst (λ (nodes : Option (List ℕ)). LogsEndorsed nodes order.job.c order.signer.now order.joined
    is.index is.signature.items asked signed) c.as_deref.ensures.value c.in_ok-signed.ensures.logged in
    let writes = writes_so order.job.c order.signer.now order.joined (output_name c.args.out) _ is.index
    is.signature.items _ asked signed c.kept_text-kept.ensures.logged signs (Ok tt) in
    on_ok_weaker c.deliver.result
    (λ published. (
      record {
        delivers = record {
          until_written = Written (output_name c.args.out) is.signature.items (Ok tt) ∷ signed;
          writes = writes.0;
          prints = published.0;
        };
        may = writes.1;
      },
      published.1,
    ))
    c.deliver.ensures.published

pub returns-clause-log_failed : goal.returns-clause-log_failed
returns-clause-log_failed g c =
    let order = c.args.order.now in
    let is = c.in_ok-signed.signed in
    let old = g.W.World.events c.args.world.now in
    let signed = g.W.World.events c.endorse_stored.new.world in
    let asked = g.W.World.events c.kept_text-kept.new.world in
    let out = output_name c.args.out in
    let signs = subst (λ (nodes : Option (List ℕ)). LogsEndorsed nodes order.job.c order.signer.now order.joined
    is.index is.signature.items asked signed) c.as_deref.ensures.value c.in_ok-signed.ensures.logged in
    let writes = writes_so order.job.c order.signer.now order.joined out _ is.index
    is.signature.items _ asked signed c.kept_text-kept.ensures.logged signs in
    IfErr-weaker c.deliver.result _ _
    (λ fault failed. inr (
      failed.0,
      ⊎_elim
          (λ (refused, calls, same).
          let cause = write_cause failed.1.0 in
          let made = subst (λ (log : WorldCalls).
          (writes : WritesSignature order.job.c (after_count order.signer.now) out (Err cause) old log)
          × MayEndorse writes.signs.state.key order.signer.now order.joined) (sym calls) (writes (Err cause)) in
          inl (cause, made.0, made.1, same))
          (λ (at, calls, line). inr (
            record {
              delivers = record { until_written = _; writes = (writes (Ok tt)).0; prints = calls };
              may = (writes (Ok tt)).1;
            },
            line,
          ))
          failed.1.1,
    ))
    c.deliver.ensures.failed

pub returns-clause-follows : goal.returns-clause-follows
returns-clause-follows g c =
    both_follow (both_follow (one_call c.kept_text-kept.ensures.logged c.kept_text-kept.ensures.acts)
    c.endorse_stored.ensures.follows) c.deliver.ensures.follows

pub returns-in_err-signed-clause-follows : goal.returns-in_err-signed-clause-follows
returns-in_err-signed-clause-follows g c =
    both_follow (one_call c.kept_text-kept.ensures.logged c.kept_text-kept.ensures.acts) c.in_err-signed.ensures.follows

pub returns-in_err-signed-clause-log_failed : goal.returns-in_err-signed-clause-log_failed
returns-in_err-signed-clause-log_failed g c =
    let order = c.args.order.now in
    let new = g.W.World.events c.endorse_stored.new.world in
    let fault = c.in_err-signed.field-0.0 in
    let never = subst (λ (log : WorldCalls). LogsNotEndorsed order.signer.now order.joined fault log new)
    c.kept_text-kept.ensures.logged c.in_err-signed.ensures.log_failed in
    handed_on _ _ _ c.from_residual.ensures.1 (inl (_, never, refl))
