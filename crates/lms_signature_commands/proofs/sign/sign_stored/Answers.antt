use Rattle.std.proofs.Common.{inl, inr}
use Rattle.std.proofs.lemmas.Result.{IfErr-weaker, IfOk-weaker}
use Rattle.lms_commands.proofs.Failing.{handed_on}
use Rattle.lms_world.proofs.Following.{both_follow}
use Rattle.lms_signature_commands.proofs.sign.sign_stored.Goals as goal

pub returns-in_err-book-clause-log_failed : goal.returns-in_err-book-clause-log_failed
returns-in_err-book-clause-log_failed g c =
    handed_on _ _ _ c.from_residual.ensures.1 (inl c.in_err-book.ensures.unopened)

pub returns-clause-logged : goal.returns-clause-logged
returns-clause-logged g c =
    IfOk-weaker c.sign_opened.result _ _ (λ signed is. is.0)
    (c.sign_opened.ensures.logged _ c.in_ok-book.ensures.logged)

pub returns-clause-log_failed : goal.returns-clause-log_failed
returns-clause-log_failed g c =
    IfErr-weaker c.sign_opened.result _ _ (λ fault is. inr (_, is))
    (c.sign_opened.ensures.log_failed _ c.in_ok-book.ensures.logged)

pub returns-clause-follows : goal.returns-clause-follows
returns-clause-follows g c = both_follow c.in_ok-book.ensures.follows c.sign_opened.ensures.follows
