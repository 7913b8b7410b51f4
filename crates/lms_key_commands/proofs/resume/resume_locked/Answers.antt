use Rattle.std.proofs.Common.{◌≡◌, ◌++◌, ℕ, inl, refl, subst}
use Rattle.lms_world.proofs.Following.{one_more}
use Rattle.lms_commands.proofs.Failing.{handed_on}
use Rattle.lms_key_commands.specs.ResumeLogs.{burnt_line}
use Rattle.lms_key_commands.proofs.resume.resume_locked.Goals as goal

pub returns-in_err-start-clause-log_failed : goal.returns-in_err-start-clause-log_failed
returns-in_err-start-clause-log_failed g c =
    handed_on _ _ _ c.from_residual.ensures.1 (inl (c.in_err-start.ensures.unburnt, refl))

pub returns-in_err-print_burnt-clause-follows : goal.returns-in_err-print_burnt-clause-follows
returns-in_err-print_burnt-clause-follows g c =
    one_more c.in_ok-start.ensures.follows c.begin_printing.ensures.logged c.begin_printing.ensures.acts

pub returns-clause-logged : goal.returns-clause-logged
returns-clause-logged g c =
    let (read, start, more, burns) = c.in_ok-start.ensures.burnt in (
      read,
      record { until_burnt = _; burns = burns; prints = c.begin_printing.ensures.logged },
      subst (λ (from : ℕ). c.print_burnt.new.output ≡ c.args.output.now ++ burnt_line from c.args.end) start
          c.in_ok-print_burnt.ensures.printed,
    )

pub returns-clause-follows : goal.returns-clause-follows
returns-clause-follows g c =
    one_more c.in_ok-start.ensures.follows c.begin_printing.ensures.logged c.begin_printing.ensures.acts
