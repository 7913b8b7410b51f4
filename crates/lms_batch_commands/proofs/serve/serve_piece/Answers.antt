use Rattle.std.proofs.Common.{◌∷◌, ◌++◌, arith, inl, inr, ap, refl, subst}
use Rattle.lms_commands.proofs.Failing.{handed_on}
use Rattle.lms_commands.specs.declared.fault.Fault.TheVariants.{BadJob}
use Rattle.lms_batch_commands.specs.Serving.{Due, LogsGroups, answered, due_of}
use Rattle.lms_batch_commands.proofs.Serving.{both_groups}
use Rattle.lms_world.proofs.Following.{both_follow}
use Rattle.lms_batch_commands.proofs.serve.serve_piece.Goals as goal

pub returns-then-line-le1-clause-unanswered : goal.returns-then-line-le1-clause-unanswered
returns-then-line-le1-clause-unanswered g c =
    let first = rw c.in-BadJob.is at c.in-Err.ensures.unanswered in (
      first.0,
      inr (
        c.in-BadJob.line,
        first.0,
        first.1,
        inl (omega (arith, c.if-line-le1.true), ap BadJob c.saturating_add.ensures, refl),
      ),
      first.2,
      first.3,
    )

pub returns-in_err-serve_lines-clause-unanswered :
    goal.returns-in_err-serve_lines-clause-unanswered
returns-in_err-serve_lines-clause-unanswered g c =
    let first = rw c.in-BadJob.is at c.in-Err.ensures.unanswered in
    let more = c.in_err-serve_lines.ensures.unanswered in
    let logs = subst (λ (d : Due). LogsGroups first.0 (due_of c.args.ongoing.now.due) d c.args.output.now
    c.serve_lines.new.output (g.W.World.events c.args.world.now) (g.W.World.events c.serve_lines.new.world))
    (first.4 c.in-BadJob.line refl) first.3 in
    handed_on _ _ _ c.from_residual.ensures.1 (
      more.0 ++ first.0,
      inr (
        c.in-BadJob.line,
        first.0,
        first.1,
        inr (
          omega (arith, c.if-line-le1.false),
          c.first_lines-front.result.now,
          c.first_lines-front.ensures,
          inr (more.0, more.1, refl),
        ),
      ),
      more.2,
      both_groups more.0 first.0 _ _ _ _ _ _ _ _ _ logs more.3,
    )

pub returns-in_err-serve_lines-clause-follows :
    goal.returns-in_err-serve_lines-clause-follows
returns-in_err-serve_lines-clause-follows g c =
    both_follow c.serve_lines.ensures.follows c.serve_lines-2.ensures.follows

pub returns-clause-unanswered :
    goal.returns-clause-unanswered
returns-clause-unanswered g c =
    let first = rw c.in-BadJob.is at c.in-Err.ensures.unanswered in
    let front = c.first_lines-front.result.now in
    let logs = subst (λ (d : Due). LogsGroups first.0 (due_of c.args.ongoing.now.due) d c.args.output.now
    c.serve_lines.new.output (g.W.World.events c.args.world.now) (g.W.World.events c.serve_lines.new.world))
    (first.4 c.in-BadJob.line refl) first.3 in (
      answered front ∷ first.0,
      inr (
        c.in-BadJob.line,
        first.0,
        first.1,
        inr (
          omega (arith, c.if-line-le1.false),
          front,
          c.first_lines-front.ensures,
          inl (ap BadJob c.saturating_add.ensures, refl),
        ),
      ),
      _,
      (_, _, _, logs, c.in_ok-serve_lines.ensures.answered),
    )

pub returns-clause-follows :
    goal.returns-clause-follows
returns-clause-follows g c =
    both_follow c.serve_lines.ensures.follows c.serve_lines-2.ensures.follows
