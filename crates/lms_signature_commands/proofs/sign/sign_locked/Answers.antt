use Rattle.std.proofs.Common.{sym, subst, refl, inl, inr, ⊎_elim, ℕ, List, Option, Ok, Err, ◌≡◌, ◌∷◌}
use Rattle.std.proofs.lemmas.Result.{IfErr-weaker, on_ok_weaker}
use Rattle.lms_world.specs.Events.{NodesRead, Writing, Written, output_name}
use Rattle.lms_world.specs.Names.{Bytes}
use Rattle.lms_commands.specs.Logs.{WorldCalls, write_cause}
use Rattle.lms_signature_commands.specs.SignLogs.{LogsNotSigned, LogsSigned, WritesSignature}
use Rattle.lms_commands.proofs.Failing.{handed_on}
use Rattle.lms_world.proofs.Following.{one_call, both_follow}
use Rattle.lms_signature_commands.proofs.sign.sign_locked.Goals as goal

module _ (random message : List ℕ) (out : Bytes) (nodes : Option (List ℕ)) (index : ℕ) (signature : List ℕ)
    (old asked signed : WorldCalls)
    (asked_is : asked ≡ NodesRead nodes ∷ old)
    (signs : LogsSigned nodes random message index signature asked signed) where
  abbrev writes_so : (answer : Writing)
      → WritesSignature random message out answer old (Written out signature answer ∷ signed)
  writes_so answer = record {
    nodes = nodes;
    index = index;
    signature = signature;
    until_signed = signed;
    signs = subst (λ (log : WorldCalls). LogsSigned nodes random message index signature log signed) asked_is signs;
    writes = refl;
  }

pub returns-clause-logged : goal.returns-clause-logged
returns-clause-logged g c =
    let job = c.args.job.now in
    let is = c.in_ok-signed.signed in
    let signed = g.W.World.events c.sign_stored.new.world in
    let asked = g.W.World.events c.kept_text-kept.new.world in
    let signs = subst (λ (nodes : Option (List ℕ)).
    LogsSigned nodes job.c job.message.items is.index is.signature.items asked signed) c.as_deref.ensures.value
    c.in_ok-signed.ensures.logged in
    on_ok_weaker c.deliver.result
    (λ published. (
      record {
        until_written = Written (output_name c.args.out) is.signature.items (Ok tt) ∷ signed;
        writes = writes_so job.c job.message.items (output_name c.args.out) _ is.index is.signature.items _ asked signed
            c.kept_text-kept.ensures.logged signs (Ok tt);
        prints = published.0;
      },
      published.1,
    ))
    c.deliver.ensures.published

pub returns-clause-log_failed : goal.returns-clause-log_failed
returns-clause-log_failed g c =
    let job = c.args.job.now in
    let is = c.in_ok-signed.signed in
    let old = g.W.World.events c.args.world.now in
    let signed = g.W.World.events c.sign_stored.new.world in
    let asked = g.W.World.events c.kept_text-kept.new.world in
    let signs = subst (λ (nodes : Option (List ℕ)).
    LogsSigned nodes job.c job.message.items is.index is.signature.items asked signed) c.as_deref.ensures.value
    c.in_ok-signed.ensures.logged in
    let writes = writes_so job.c job.message.items (output_name c.args.out) _ is.index is.signature.items _ asked signed
    c.kept_text-kept.ensures.logged signs in
    IfErr-weaker c.deliver.result _ _
    (λ fault failed. inr (
      failed.0,
      ⊎_elim
          (λ (refused, calls, same). inl (
            write_cause failed.1.0,
            subst (λ (log : WorldCalls).
                WritesSignature job.c job.message.items (output_name c.args.out) (Err (write_cause failed.1.0)) old log)
                (sym calls) (writes (Err (write_cause failed.1.0))),
            same,
          ))
          (λ (at, calls, line). inr (record { until_written = _; writes = writes (Ok tt); prints = calls }, line))
          failed.1.1,
    ))
    c.deliver.ensures.failed

pub returns-clause-follows : goal.returns-clause-follows
returns-clause-follows g c =
    both_follow (both_follow (one_call c.kept_text-kept.ensures.logged c.kept_text-kept.ensures.acts)
    c.sign_stored.ensures.follows) c.deliver.ensures.follows

pub returns-in_err-signed-clause-follows : goal.returns-in_err-signed-clause-follows
returns-in_err-signed-clause-follows g c =
    both_follow (one_call c.kept_text-kept.ensures.logged c.kept_text-kept.ensures.acts) c.in_err-signed.ensures.follows

pub returns-in_err-signed-clause-log_failed : goal.returns-in_err-signed-clause-log_failed
returns-in_err-signed-clause-log_failed g c =
    let new = g.W.World.events c.sign_stored.new.world in
    let fault = c.in_err-signed.field-0.0 in
    let never = subst (λ (log : WorldCalls). LogsNotSigned fault log new) c.kept_text-kept.ensures.logged
    c.in_err-signed.ensures.log_failed in
    handed_on _ _ _ c.from_residual.ensures.1 (inl (_, never, refl))
