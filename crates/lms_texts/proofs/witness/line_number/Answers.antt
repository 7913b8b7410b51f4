use Rattle.std.proofs.Common.{◌≡◌, ◌∙◌, ℕ, List, [], ◌∷◌, ◌++◌, ap, sym, subst, decimal, arith}
use Rattle.std.proofs.lemmas.Fmt.{IsAscii-decimal}
use Rattle.std.proofs.lemmas.Str.{IsUtf8-from_ascii}
use Rattle.std.specs.Str.{IsUtf8}
use Rattle.std.proofs.lemmas.List.{append_cancel_right}
use Rattle.lms_texts.proofs.witness.line_number.Goals as goal

pub returns-in-Err-clause-none : goal.returns-in-Err-clause-none
returns-in-Err-clause-none c = λ number fits is.
    let digits = c.in_ok-end.digits.now in
    let end : c.in_ok-end.end.now ≡ 10 = omega (arith, c.if-end-ne10.false) in
    let all = sym c.in_ok-end.ensures.cases.0 ∙ is in
    let line = subst (λ (n : ℕ). digits ++ (n ∷ []) ≡ decimal number ++ (10 ∷ [])) end all in
    let same = append_cancel_right digits (decimal number) (10 ∷ []) line in
    c.in-Err.ensures.cases.0
    (subst IsUtf8 (sym same) (IsUtf8-from_ascii (decimal number) (IsAscii-decimal number fits)))
