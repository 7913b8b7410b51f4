use Rattle.std.proofs.Common.{◌∙◌, ℕ, Some, ap, inl, inr, refl, sym, subst}
use Rattle.std.proofs.lemmas.Result.{IfErr-weaker, on_ok_weaker}
use Rattle.lms_commands.proofs.Failing.{handed_on}
use Rattle.lms_commands.specs.Logs.{KeyState, state_of}
use Rattle.lms_batch_commands.specs.Batches.{IsUnprinted}
use Rattle.lms_batch_commands.specs.Serving.{IsDue, Only, due_of, having_used}
use Rattle.lms_batch_commands.proofs.Serving.{batch_within, refused_group}
use Rattle.lms_world.proofs.Following.{both_follow, one_more}
use Rattle.lms_batch_commands.proofs.serve.sign_group.Goals as goal

pub returns-in_err-book-clause-unanswered : goal.returns-in_err-book-clause-unanswered
returns-in_err-book-clause-unanswered g c =
    handed_on _ _ _ c.from_residual.ensures.1 (inl (refl, inl (c.in_err-book.ensures.refused, refl)))

pub returns-in_err-signed-clause-unanswered : goal.returns-in_err-signed-clause-unanswered
returns-in_err-signed-clause-unanswered g c =
    handed_on _ _ _ c.from_residual-in_err-signed.ensures.1
    (refused_group c.args.text.now _ _ (state_of c.in_ok-book.book) _ _ _ _ _ c.in_ok-book.ensures.due
    (c.in_err-signed.ensures.log_failed _ c.in_ok-book.ensures.logged) (ap Only c.image_read-read.ensures))

pub returns-in_err-signed-clause-follows : goal.returns-in_err-signed-clause-follows
returns-in_err-signed-clause-follows g c =
    both_follow c.in_ok-book.ensures.follows c.sign_opened.ensures.follows

pub after_use-requires-clause-within : goal.after_use-requires-clause-within
after_use-requires-clause-within g c =
    let signs = c.in_ok-signed.ensures.logged _ c.in_ok-book.ensures.logged in
    batch_within c.image_read-read.result c.in_ok-signed.signed.asked signs.0
    (signs.1 ∙ sym c.image_read-read.ensures) signs.2

pub returns-clause-answered : goal.returns-clause-answered
returns-clause-answered g c =
    let signs = c.in_ok-signed.ensures.logged _ c.in_ok-book.ensures.logged in
    let asked = c.in_ok-signed.signed.asked in
    on_ok_weaker c.print_answers.result
    (λ all. (
      _,
      asked,
      (
        c.in_ok-signed.signed.batch,
        record {
          until_signed = g.W.World.events c.sign_opened.new.world;
          signs = signs.0;
          prints = c.begin_printing.ensures.logged;
        },
        sym all.0,
        signs.2,
        all.1,
      ),
      subst (λ (s : KeyState). IsDue (due_of c.args.ongoing.now.due) s) (sym signs.1) c.in_ok-book.ensures.due,
      ap Only (c.after_use.ensures ∙ ap (having_used asked) (c.image_read-read.ensures ∙ sym signs.1)),
    ))
    c.print_answers.ensures.all

pub returns-clause-unanswered : goal.returns-clause-unanswered
returns-clause-unanswered g c =
    let signs = c.in_ok-signed.ensures.logged _ c.in_ok-book.ensures.logged in
    IfErr-weaker c.print_answers.result _ _
    (λ fault is. inr (
      state_of c.in_ok-book.book,
      c.in_ok-book.ensures.due,
      inr (
        _,
        c.in_ok-signed.signed.batch,
        record {
          until_signed = g.W.World.events c.sign_opened.new.world;
          signs = signs.0;
          prints = c.begin_printing.ensures.logged;
        },
        signs.1,
        subst (λ (n : ℕ). IsUnprinted c.in_ok-signed.signed.batch n (Some c.args.output.now)
            (Some c.print_answers.new.output) fault) signs.2 is,
      ),
    ))
    c.print_answers.ensures.failed

pub returns-clause-follows : goal.returns-clause-follows
returns-clause-follows g c =
    one_more (both_follow c.in_ok-book.ensures.follows c.sign_opened.ensures.follows) c.begin_printing.ensures.logged
    c.begin_printing.ensures.acts
