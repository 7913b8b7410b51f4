use Rattle.std.proofs.Common.{List, ℕ, ◌++◌, sym, ◌∙◌, subst}
use Rattle.std.specs.Prelude.{IfErr, IfOk}
use Rattle.std.proofs.lemmas.Bool.{eqb-true}
use Rattle.std.proofs.lemmas.List.{nil_from_length}
use Rattle.lms_batch.specs.Jobs.{JobText, text_of}
use Rattle.lms_lines.specs.JobLines.{IsJobLine}
use Rattle.lms_lines.specs.Gathered.{Gathered, gathered, IsRefusal}
use Rattle.lms_lines.proofs.Steps.{IfErr-same, refused-long}
use Rattle.lms_lines.proofs.gathering.Gathering.ended.Goals as goal

pub returns-then-is_empty-clause-ok : goal.returns-then-is_empty-clause-ok
returns-then-is_empty-clause-ok c =
    let line = c.args.self.now.line in
    let none = nil_from_length line.items
    (sym line.ok.0 ∙ eqb-true _ _ (sym c.is_empty.ensures ∙ c.if-is_empty.true)) in
    subst (λ (l : List ℕ). IfOk c.judged.result (λ job. IsJobLine (l ++ c.args.end.now) (text_of job)))
    (sym none) c.judged.ensures.ok

pub returns-then-is_empty-clause-fault : goal.returns-then-is_empty-clause-fault
returns-then-is_empty-clause-fault c =
    let line = c.args.self.now.line in
    let none = nil_from_length line.items
    (sym line.ok.0 ∙ eqb-true _ _ (sym c.is_empty.ensures ∙ c.if-is_empty.true)) in
    subst (λ (l : List ℕ). IfErr c.judged.result (λ e.
    IsRefusal (gathered c.args.self.now) e ((job : JobText) → ¬ IsJobLine (l ++ c.args.end.now) job)))
    (sym none) c.judged.ensures.fault

pub returns-in_err-add-clause-fault : goal.returns-in_err-add-clause-fault
returns-in_err-add-clause-fault c =
    let g = gathered c.args.self.now in
    let fault = c.in_err-add.field-0.0 in
    IfErr-same (λ e. IsRefusal g e ((job : JobText) → ¬ IsJobLine (g.line ++ c.args.end.now) job))
    c.from_residual.result fault c.from_residual.ensures.1
    (refused-long g c.args.end.now fault c.in_err-add.ensures.fault)

pub returns-clause-ok : goal.returns-clause-ok
returns-clause-ok c =
    subst (λ (now : Gathered). IfOk c.judged-2.result (λ job. IsJobLine now.line (text_of job))) c.in_ok-add.ensures.ok
    (subst (λ (l : List ℕ). IfOk c.judged-2.result (λ job. IsJobLine l (text_of job))) c.as_slice.ensures.value
    c.judged-2.ensures.ok)

pub returns-clause-fault : goal.returns-clause-fault
returns-clause-fault c =
    subst (λ (now : Gathered).
    IfErr c.judged-2.result (λ e. IsRefusal now e ((job : JobText) → ¬ IsJobLine now.line job))) c.in_ok-add.ensures.ok
    (subst (λ (l : List ℕ). IfErr c.judged-2.result (λ e. IsRefusal (gathered c.add.new.self) e
    ((job : JobText) → ¬ IsJobLine l job))) c.as_slice.ensures.value c.judged-2.ensures.fault)
