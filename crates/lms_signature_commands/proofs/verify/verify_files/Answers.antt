use Rattle.std.proofs.Common.{◌∙◌, [], List, ℕ, Option, inl, inr, refl, subst, subst₂}
use Rattle.lms_world.proofs.Following.{one_call, one_more, then_nothing}
use Rattle.lms_signature_commands.specs.VerifyLogs.{LogsJudging}
use Rattle.lms_signature_commands.specs.Verdicts.{IsRightFor}
use Rattle.lms_commands.proofs.Failing.{handed_on}
use Rattle.lms_commands.proofs.Logged.{three_calls}
use Rattle.lms_signature_commands.proofs.verify.verify_files.Goals as goal

pub returns-in_err-signature-clause-log_failed : goal.returns-in_err-signature-clause-log_failed
returns-in_err-signature-clause-log_failed g c =
    let calls = three_calls _ _ _ _ _ _ _ c.in_ok-public.ensures.logged c.in_ok-message.ensures.logged
    c.in_err-signature.ensures.logged in
    handed_on _ _ _ c.from_residual-in_err-signature.ensures.1
    (inl (c.in_err-signature.ensures.refused, refl, inr (c.in_ok-public.public.items, inr (inl (_, calls)))))

pub returns-in_err-hand_over-clause-log_failed : goal.returns-in_err-hand_over-clause-log_failed
returns-in_err-hand_over-clause-log_failed g c =
    let refused = c.in_err-hand_over.ensures.refused in
    let calls = three_calls _ _ _ _ _ _ _ c.in_ok-public.ensures.logged c.in_ok-message.ensures.logged
    c.in_ok-signature.ensures.logged in
    let unheld = subst (λ (held : Option (List ℕ)). LogsJudging c.args.public.now c.args.message.now
    c.args.signature.now c.in_ok-public.public.items held c.in_ok-signature.signature.items
    (g.W.World.events c.args.world.now) (g.W.World.events c.read_file-2.new.world)) refused.1 calls in
    handed_on _ _ _ c.from_residual-in_err-hand_over.ensures.1
    (inl (refused.0, refl, inr (c.in_ok-public.public.items, inr (inr (c.in_ok-signature.signature.items, unheld)))))

pub returns-clause-logged : goal.returns-clause-logged
returns-clause-logged g c =
    let handed = c.in_ok-hand_over.ensures.handed in
    let right = c.finish-verdict.ensures c.deref.result.now c.deref-2.result.now handed.0
    (handed.2 c.deref.result.now c.deref-2.result.now [] c.begin-judge.ensures) in
    let calls = three_calls _ _ _ _ _ _ _ c.in_ok-public.ensures.logged c.in_ok-message.ensures.logged
    c.in_ok-signature.ensures.logged in (
      c.in_ok-public.public.items,
      handed.0,
      c.in_ok-signature.signature.items,
      subst₂ (λ (key signed : List ℕ). IsRightFor c.finish-verdict.result key handed.0 signed) c.deref.ensures.value
          c.deref-2.ensures.value right,
      (_, _, handed.1, calls, c.explain_verdict.ensures.unlogged ∙ c.begin_printing.ensures.logged),
      c.in_ok-print_verdict.ensures.printed,
    )

pub returns-in_err-public-clause-follows : goal.returns-in_err-public-clause-follows
returns-in_err-public-clause-follows g c = one_call c.in_err-public.ensures.logged c.in_err-public.ensures.acts

pub returns-in_err-message-clause-follows : goal.returns-in_err-message-clause-follows
returns-in_err-message-clause-follows g c =
    one_more (one_call c.in_ok-public.ensures.logged c.in_ok-public.ensures.acts) c.in_err-message.ensures.logged
    c.in_err-message.ensures.acts

pub returns-in_err-signature-clause-follows : goal.returns-in_err-signature-clause-follows
returns-in_err-signature-clause-follows g c = one_more
    (one_more (one_call c.in_ok-public.ensures.logged c.in_ok-public.ensures.acts) c.in_ok-message.ensures.logged
    c.in_ok-message.ensures.acts) c.in_err-signature.ensures.logged c.in_err-signature.ensures.acts

pub returns-in_err-hand_over-clause-follows : goal.returns-in_err-hand_over-clause-follows
returns-in_err-hand_over-clause-follows g c = one_more
    (one_more (one_call c.in_ok-public.ensures.logged c.in_ok-public.ensures.acts) c.in_ok-message.ensures.logged
    c.in_ok-message.ensures.acts) c.in_ok-signature.ensures.logged c.in_ok-signature.ensures.acts

pub returns-in_err-print_verdict-clause-follows : goal.returns-in_err-print_verdict-clause-follows
returns-in_err-print_verdict-clause-follows g c =
    one_more (one_more (one_more (one_call c.in_ok-public.ensures.logged c.in_ok-public.ensures.acts)
    c.in_ok-message.ensures.logged c.in_ok-message.ensures.acts) c.in_ok-signature.ensures.logged
    c.in_ok-signature.ensures.acts)
    c.begin_printing.ensures.logged c.begin_printing.ensures.acts

pub returns-clause-follows : goal.returns-clause-follows
returns-clause-follows g c =
    then_nothing (one_more (one_more (one_more (one_call c.in_ok-public.ensures.logged c.in_ok-public.ensures.acts)
    c.in_ok-message.ensures.logged c.in_ok-message.ensures.acts) c.in_ok-signature.ensures.logged
    c.in_ok-signature.ensures.acts)
    c.begin_printing.ensures.logged c.begin_printing.ensures.acts)
    c.explain_verdict.ensures.unlogged c.explain_verdict.ensures.same
