use Rattle.std.specs.Io.KnownBytes.{Consumes}
use Rattle.std.proofs.Common.{[], ◌∷◌, List, ℕ, Option, inl, inr, refl, sym, subst, arith}
use Rattle.lms_image.specs.declared.image.Image.{Image}
use Rattle.lms_lines.proofs.Cutting.{no-lines-in-none}
use Rattle.lms_lines.proofs.Steps.{consumes-none}
use Rattle.lms_commands.proofs.Failing.{handed_on}
use Rattle.lms_batch_commands.specs.Serving.{AnswersGroup, AnyState, due_of}
use Rattle.lms_batch_commands.proofs.Serving.{answers_all, answers_more, count_more, lines_failed}
use Rattle.lms_world.proofs.Following.{both_follow}
use Rattle.lms_batch_commands.proofs.serve.serve_locked.Goals as goal

pub loop-group-init : goal.loop-group-init
loop-group-init g c = (
  [] ∷ [],
  record {
    consumed = subst (λ (held : List ℕ). Consumes (g.I.Read.remaining c.args.input.now)
        (g.I.Read.remaining c.args.input.now) held) (sym c.in-Ok.ensures.none) (consumes-none _);
    opens = ([], refl);
    whole = (inl refl, tt);
    logs = (
      c.args.output.now,
      g.W.World.events c.args.world.now,
      AnyState,
      (refl, refl, refl),
      subst (λ (due : Option Image). AnswersGroup [] AnyState (due_of due) c.args.output.now c.sign_group.new.output
          (g.W.World.events c.args.world.now) (g.W.World.events c.sign_group.new.world)) (sym c.prepare.ensures.same)
          c.in_ok-sign_group.ensures.answered,
    );
  },
  sym no-lines-in-none,
  omega arith,
  omega arith,
  c.sign_group.ensures.follows,
)

pub returns-in_err-sign_group-clause-log_failed : goal.returns-in_err-sign_group-clause-log_failed
returns-in_err-sign_group-clause-log_failed g c =
    let failed = lines_failed [] c.in_err-sign_group.field-0.0 AnyState _ _ _ _ _
    c.in_err-sign_group.ensures.unanswered in
    handed_on _ _ _ c.from_residual.ensures.1 (inl (failed.0, failed.1, refl))

pub returns-in_err-prepare-clause-log_failed : goal.returns-in_err-prepare-clause-log_failed
returns-in_err-prepare-clause-log_failed g c =
    handed_on _ _ _ c.from_residual-in_err-prepare.ensures.1
    (inr (inl (c.in_err-prepare.ensures.fault, _, c.in_ok-sign_group.ensures.answered, refl)))

pub returns-in_default-clause-log_failed : goal.returns-in_default-clause-log_failed
returns-in_default-clause-log_failed g c = inr (inl (refl, _, c.in_ok-sign_group.ensures.answered, refl))

pub returns-in_err-lines-clause-log_failed : goal.returns-in_err-lines-clause-log_failed
returns-in_err-lines-clause-log_failed g c =
    let was = c.loop-group.invariant in
    handed_on _ _ _ c.from_residual-in_err-lines.ensures.1 (inr (inr (inl (record {
      texts = was.0;
      held = c.loop-group.pieces;
      until = g.I.Read.remaining c.loop-group.input;
      between = c.loop-group.output;
      mid = g.W.World.events c.loop-group.world;
      due = due_of c.loop-group.ongoing.due;
      answers = was.1;
      fails = rw was.2 at c.in_err-lines.ensures.fails;
    }))))

pub returns-in_err-lines-clause-follows : goal.returns-in_err-lines-clause-follows
returns-in_err-lines-clause-follows g c = both_follow c.loop-group.invariant.5 c.serve_next.ensures.follows

pub returns-then-is_last-clause-logged : goal.returns-then-is_last-clause-logged
returns-then-is_last-clause-logged g c =
    let was = c.loop-group.invariant in
    answers_all _ _ _ was.0 _ _ _ _ _ _ _ _ _ _ _ c.in_ok-lines.is_last was.1 c.in_ok-lines.ensures.serves
    c.if-is_last.true

pub returns-then-is_last-clause-follows : goal.returns-then-is_last-clause-follows
returns-then-is_last-clause-follows g c = both_follow c.loop-group.invariant.5 c.serve_next.ensures.follows

pub loop-group-preserved : goal.loop-group-preserved
loop-group-preserved g c =
    let was = c.loop-group.invariant in
    let serves = c.in_ok-lines.ensures.serves in
    let more = count_more was.0 serves.text was.1.whole in (
      serves.text ∷ was.0,
      answers_more _ _ _ was.0 _ _ _ _ _ _ _ _ _ _ _ c.in_ok-lines.is_last was.1 serves c.if-is_last.false,
      omega (arith, was.2, serves.count, more),
      omega (arith, was.3, serves.few),
      omega (arith, was.4),
      both_follow was.5 c.serve_next.ensures.follows,
    )
