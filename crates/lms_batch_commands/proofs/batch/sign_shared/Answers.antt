use Rattle.std.proofs.Common.{◌≡◌, ◌∙◌, [], length, ap, refl, subst}
use Rattle.std.proofs.lemmas.Result.{IfErr-weaker, IfOk-weaker}
use Rattle.lms_shared_book.specs.Desks.{SharedState, sums}
use Rattle.lms_lines.specs.declared.fault.JobsFault.TheVariants as jobs
use Rattle.lms_lines.specs.declared.fault.LinesFault.TheVariants as lines
use Rattle.lms_batch_commands.specs.SharedBooks.{IsRefusedAt, IsSignedAt}
use Rattle.lms_batch_commands.proofs.Batches.{lent_one, settled_one, says_nothing}
use Rattle.lms_batch_commands.proofs.batch.sign_shared.Goals as goal

pub returns-in-Err-clause-refused : goal.returns-in-Err-clause-refused
returns-in-Err-clause-refused g c = (
  sums 0 0 0,
  (lines.Jobs jobs.OutOfMemory, refl, (says_nothing _, refl)),
  record { entries = []; after = c.in-Err.ensures.err.0; all = refl },
)

pub returns-clause-signed : goal.returns-clause-signed
returns-clause-signed g c =
    let before = g.I.Read.remaining c.args.input.now in
    let after = g.I.Read.remaining c.sign_at_desk-answer.new.input in
    let service = c.over-service.ensures ∙ c.in-Ok.ensures.shared in
    let book = ap (λ (s : SharedState). s.book) (c.into_book.ensures ∙ service) in
    let len : c.in-Ok.shared.1.len ≡ 1 = c.in-Ok.shared.1.ok.0 ∙ ap length c.in-Ok.ensures.desks in
    IfOk-weaker c.sign_at_desk-answer.result _ _
    (λ signed is. (
      is.0,
      subst (λ (s : SharedState). IsSignedAt s before after signed is.0) service is.2,
      settled_one c.args.book c.into_book.result.book c.in-Ok-settle.left _ is.0 book
          (lent_one _ _ _ _ is.0 len c.in-Ok.ensures.desks is.1) c.in-Ok-settle.ensures.settled,
    ))
    c.sign_at_desk-answer.ensures.signed

pub returns-clause-refused : goal.returns-clause-refused
returns-clause-refused g c =
    let before = g.I.Read.remaining c.args.input.now in
    let after = g.I.Read.remaining c.sign_at_desk-answer.new.input in
    let service = c.over-service.ensures ∙ c.in-Ok.ensures.shared in
    let book = ap (λ (s : SharedState). s.book) (c.into_book.ensures ∙ service) in
    let len : c.in-Ok.shared.1.len ≡ 1 = c.in-Ok.shared.1.ok.0 ∙ ap length c.in-Ok.ensures.desks in
    IfErr-weaker c.sign_at_desk-answer.result _ _
    (λ fault is. (
      is.0,
      subst (λ (s : SharedState). IsRefusedAt s before after fault is.0) service is.2,
      settled_one c.args.book c.into_book.result.book c.in-Ok-settle.left _ is.0 book
          (lent_one _ _ _ _ is.0 len c.in-Ok.ensures.desks is.1) c.in-Ok-settle.ensures.settled,
    ))
    c.sign_at_desk-answer.ensures.refused
