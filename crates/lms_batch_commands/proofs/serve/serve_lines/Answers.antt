use Rattle.std.proofs.Common.{◌≡◌, [], ◌∷◌, ℕ, suc, Some, inl, inr, refl, subst, sym, arith}
use Rattle.lms_commands.proofs.Failing.{handed_on}
use Rattle.lms_commands.specs.declared.fault.Fault.TheVariants.{Exhausted}
use Rattle.lms_batch_commands.specs.Serving.{FailsLines, answered, due_of, tried}
use Rattle.lms_batch_commands.proofs.Serving.{lines_failed, one_group, spared, two_groups}
use Rattle.lms_world.proofs.Following.{both_follow}
use Rattle.lms_batch_commands.proofs.serve.serve_lines.Goals as goal

pub returns-in_err-sign_group-clause-unanswered :
    goal.returns-in_err-sign_group-clause-unanswered
returns-in_err-sign_group-clause-unanswered g c =
    let text = c.args.text.now in
    let front = c.first_lines-front.result.now in
    let left = c.in-Exhausted.left in
    let fault = c.in_err-sign_group.field-0.0 in
    let first = spared text (Exhausted left) _ _ _ _ _ _ (inl (left, refl))
    (rw c.in-Exhausted.is at c.in-Err.ensures.unanswered) in
    let later_due = lines_failed front fault _ _ _ _ _ _ c.in_err-sign_group.ensures.unanswered in
    handed_on _ _ _ c.from_residual.ensures.1 (
      tried front fault ∷ tried text (Exhausted left) ∷ [],
      inr (left, front, omega (arith, c.if-left-gt0.true), c.first_lines-front.ensures, inr refl),
      later_due.0,
      two_groups (tried text (Exhausted left)) (tried front fault) _ _ _ _ _ _ _ _ _ first later_due.1,
      later_due.2,
    )

pub returns-in_err-sign_group-clause-follows :
    goal.returns-in_err-sign_group-clause-follows
returns-in_err-sign_group-clause-follows g c =
    both_follow c.sign_group.ensures.follows c.sign_group-then-left-gt0.ensures.follows

pub returns-in_ok-sign_group-clause-unanswered :
    goal.returns-in_ok-sign_group-clause-unanswered
returns-in_ok-sign_group-clause-unanswered g c =
    let text = c.args.text.now in
    let front = c.first_lines-front.result.now in
    let left = c.in-Exhausted.left in
    let first = spared text (Exhausted left) _ _ _ _ _ _ (inl (left, refl))
    (rw c.in-Exhausted.is at c.in-Err.ensures.unanswered) in (
      answered front ∷ tried text (Exhausted left) ∷ [],
      inr (left, front, omega (arith, c.if-left-gt0.true), c.first_lines-front.ensures, inl (refl, refl)),
      _,
      two_groups (tried text (Exhausted left)) (answered front) _ _ _ _ _ _ _ _ _ first
          c.in_ok-sign_group.ensures.answered,
      λ line at. refl,
    )

pub returns-in_ok-sign_group-clause-follows :
    goal.returns-in_ok-sign_group-clause-follows
returns-in_ok-sign_group-clause-follows g c =
    both_follow c.sign_group.ensures.follows c.sign_group-then-left-gt0.ensures.follows

pub returns-else-left-gt0-clause-unanswered : goal.returns-else-left-gt0-clause-unanswered
returns-else-left-gt0-clause-unanswered g c =
    let text = c.args.text.now in
    let zero : c.in-Exhausted.left ≡ 0 = omega (arith, c.if-left-gt0.false) in
    let later_due = lines_failed text (Exhausted c.in-Exhausted.left) _ _ _ _ _ _
    (rw c.in-Exhausted.is at c.in-Err.ensures.unanswered) in
    subst (λ (n : ℕ). FailsLines text (Exhausted n) (due_of c.args.ongoing.now.due) (due_of c.sign_group.new.ongoing.due)
    c.args.output.now c.sign_group.new.output (g.W.World.events c.args.world.now)
    (g.W.World.events c.sign_group.new.world)) zero (
      tried text (Exhausted c.in-Exhausted.left) ∷ [],
      inl (refl, λ n is. cc (sym zero, is)),
      later_due.0,
      one_group text (Some (Exhausted c.in-Exhausted.left)) _ _ _ _ _ _ later_due.1,
      later_due.2,
    )

pub returns-in_default-fault : goal.returns-in_default-fault
returns-in_default-fault g c =
    let text = c.args.text.now in
    let later_due = lines_failed text c.in-Err.fault _ _ _ _ _ _ c.in-Err.ensures.unanswered in
    record {
      answered = tt;
      unanswered = (
        tried text c.in-Err.fault ∷ [],
        inl (refl, λ n. c.in_default-fault.not-Exhausted (suc n)),
        later_due.0,
        one_group text (Some c.in-Err.fault) _ _ _ _ _ _ later_due.1,
        later_due.2,
      );
      follows = c.sign_group.ensures.follows;
    }
