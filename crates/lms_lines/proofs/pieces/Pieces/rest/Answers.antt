use Rattle.std.proofs.Common.{◌≡◌, ◌∙◌, ap, sym, subst, length, List, ℕ, Vec, Global}
use Rattle.std.proofs.lemmas.Bool.{eqb-true, eq-eqb, false≢true}
use Rattle.lms_lines.specs.Gathered.{HasNoEnd}
use Rattle.lms_lines.specs.TextLines.{lines_of}
use Rattle.lms_lines.proofs.Cutting.{no-line, only-line}
use Rattle.lms_lines.proofs.pieces.Pieces.rest.Goals as goal

pub returns-then-is_empty-clause-lines : goal.returns-then-is_empty-clause-lines
returns-then-is_empty-clause-lines c =
    let held : c.replace-text.result.items ≡ c.args.self.now =
    ap (λ (v : Vec ℕ Global). v.items) c.replace-text.ensures.value ∙ c.self.view_is in
    subst (λ (l : List ℕ). 0 ≡ length (lines_of l)) held
    (no-line c.replace-text.result.items (sym c.replace-text.result.ok.0 ∙ eqb-true _ _ (sym c.if-is_empty.ensures)))

pub returns-clause-lines : goal.returns-clause-lines
returns-clause-lines c =
    let held : c.replace-text.result.items ≡ c.args.self.now =
    ap (λ (v : Vec ℕ Global). v.items) c.replace-text.ensures.value ∙ c.self.view_is in
    subst (λ (l : List ℕ). 1 ≡ length (lines_of l)) held (only-line c.replace-text.result.items
    (λ none. false≢true (c.if-is_empty.ensures ∙ eq-eqb _ _ (c.replace-text.result.ok.0 ∙ none)))
    (subst HasNoEnd (sym held) c.requires))
