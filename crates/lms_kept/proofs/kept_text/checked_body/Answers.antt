use Rattle.std.proofs.Common.{ℕ, ◌≡◌, List, ◌++◌, sym, ◌∙◌, ap₂, rules, take-append-drop}
use Rattle.std.specs.List.{IsSplitAt}
use Rattle.std.proofs.lemmas.Bool.{false≢true}
use Rattle.std.proofs.lemmas.Slice.Eq.{bytes_eq-Decides}
use Rattle.lms_hss.specs.Keys.{hss_key_of}
use Rattle.lms_kept.proofs.KeptTexts.{cut-there, in-any-case, too-short}
use Rattle.lms_kept.proofs.kept_text.checked_body.Goals as goal

parts : (text body check value : List ℕ) (n : ℕ) → IsSplitAt text n body check → check ≡ value → text ≡ body ++ value
parts text body check value n is e = sym (take-append-drop n text) ∙ ap₂ (λ x y. x ++ y) (sym is.1) (sym is.2 ∙ e)

pub returns-in_err-checked_sub-clause-none : goal.returns-in_err-checked_sub-clause-none
returns-in_err-checked_sub-clause-none c =
    in-any-case c.from_residual.result (too-short (hss_key_of c.args.key.now) c.args.text.now (search rules))

pub returns-then-eq-clause-some : goal.returns-then-eq-clause-some
returns-then-eq-clause-some c =
    let same = (bytes_eq-Decides c.in_ok-body.check.now c.as_slice.result.now).0 (sym c.if-eq.ensures) in
    parts c.args.text.now c.in_ok-body.body.now c.in_ok-body.check.now _ _ c.in_ok-body.ensures.cases
    (same ∙ (c.as_slice.ensures ∙ c.check_value.ensures))

pub returns-else-eq-clause-none : goal.returns-else-eq-clause-none
returns-else-eq-clause-none c other e =
    let key = hss_key_of c.args.key.now in
    let there = cut-there key c.args.text.now c.in_ok-body.body.now c.in_ok-body.check.now _ c.in_ok-body.ensures.cases
    (search rules) other e in
    let same : c.in_ok-body.check.now ≡ c.as_slice.result.now =
    there ∙ sym (c.as_slice.ensures ∙ c.check_value.ensures) in
    false≢true (c.if-eq.ensures ∙ (bytes_eq-Decides c.in_ok-body.check.now c.as_slice.result.now).1 same)
