use Rattle.std.proofs.Common.{◌≡◌, ◌∙◌, [], ap, refl, subst}
use Rattle.std.specs.Prelude.{IfOk}
use Rattle.lms_book.specs.States.{BookState}
use Rattle.lms_shared_book.specs.Desks.{SharedState, Sums, sums}
use Rattle.lms_shared_book.specs.Shared.{IsSettled}
use Rattle.lms_batch.specs.Jobs.{texts_of}
use Rattle.lms_batch.specs.Answers.{IsAnswerTo, start_of}
use Rattle.lms_uses.proofs.workers.sign_shared.Goals as goal

pub returns-in-Err-clause-left : goal.returns-in-Err-clause-left
returns-in-Err-clause-left g c = (sums 0 0 0, record { entries = []; after = c.in-Err.ensures.err.0; all = refl })

-- the service is over the book that was handed in
pub returns-clause-answer : goal.returns-clause-answer
returns-clause-answer g c =
    subst (λ (shared : SharedState). IfOk c.sign_batch-batch.result
    (λ batch. IsAnswerTo shared.book.key (start_of batch) (texts_of c.args.jobs.now) batch))
    (c.over-service.ensures ∙ c.in-Ok.ensures.shared) c.sign_batch-batch.ensures.answer

-- what became of a book became of the one that it is
of_the_same : (old book left : BookState) (counted : Sums) → old ≡ book → IsSettled old counted left
    → (counted : Sums) × IsSettled book counted left
of_the_same old book left counted same settled =
    (counted, subst (λ (book : BookState). IsSettled book counted left) same settled)

pub returns-clause-left : goal.returns-clause-left
returns-clause-left g c =
    let book = ap (λ (shared : SharedState). shared.book)
    (c.into_book.ensures ∙ c.over-service.ensures ∙ c.in-Ok.ensures.shared) in
    of_the_same _ _ _ _ book c.in-Ok-settle.ensures.settled
