use Rattle.std.proofs.Common.{rules, refl, List, ℕ, zero, suc, ◌<◌, ◌≡◌, ◌≢◌, ◌^◌, [], ◌∷◌, get_or, ap, sym, ◌∙◌, arith}
use Rattle.std.proofs.Common.{decimal, Option, None, Some}
use Rattle.std.specs.Prelude.{slice_get, IfNone, IfSome, Result, Ok, Err}
use Rattle.std.specs.Result.{result_ok}
use Rattle.std.specs.Prelude.{Bool, true, false}
use Rattle.std.specs.Str.{bytes_eq}
use Rattle.std.proofs.lemmas.Slice.Eq.{bytes_eq-Decides}
use Rattle.std.proofs.lemmas.Bool.{true≢false}
use Rattle.std.specs.Str.Parse.{ParsesUnsigned}
use Rattle.std.proofs.lemmas.Option.{get_or_from_slice_get}
use Rattle.std.proofs.lemmas.Fmt.{decimal_digit, first_decimal, parse-decimal}
use Rattle.lms_texts.proofs.LevelTexts.{if_none}
use Rattle.lms_texts.proofs.Workers.{is_text_of, none_is_first}
use Rattle.lms_texts.proofs.witness.decimal_number.Goals as goal

-- a number's text is that of 0, or begins so
first_is : (text : List ℕ) (number : ℕ) → number < 2 ^ 64 → text ≡ decimal number → (text ≡ 48 ∷ [] → ⊥)
    → 48 < get_or text 0 0
first_is text zero fits is other = absurd (other (is ∙ decimal_digit 0 (omega arith)))
first_is text (suc n) fits is other =
    let first = first_decimal (suc n) (omega arith) fits in
    omega (arith, first, ap (λ (t : List ℕ). get_or t 0 0) is)

some_of : {E : Type 0} (text : List ℕ) (answer : Result ℕ E) → ParsesUnsigned 64 10 text answer → 48 < get_or text 0 0
    → IfSome (result_ok answer) (λ number. text ≡ decimal number)
some_of {E} text answer parses first = go answer refl
  where
    go : (r : Result ℕ E) → answer ≡ r → IfSome (result_ok r) (λ number. text ≡ decimal number)
    go (Ok n) is = is_text_of text answer n parses first is
    go (Err e) is = tt

none_of : {E : Type 0} (text : List ℕ) (answer : Result ℕ E) → ParsesUnsigned 64 10 text answer
    → IfNone (result_ok answer) ((number : ℕ) → number < 2 ^ 64 → text ≢ decimal number)
none_of text (Ok n) parses = tt
none_of text (Err e) parses = λ number fits is.
    let read = parse-decimal 64 number text (Err e) fits fits is parses in
    cc

not_zero : (text : List ℕ) (same : Bool) → same ≡ bytes_eq text (48 ∷ []) → same ≡ false → text ≡ 48 ∷ [] → ⊥
not_zero text same eq differs is =
    absurd (true≢false (sym ((bytes_eq-Decides text (48 ∷ [])).1 is) ∙ (sym eq ∙ differs)))

pub returns-then-eq-clause-some : goal.returns-then-eq-clause-some
returns-then-eq-clause-some c = search (rules, decimal_digit)

pub returns-in_err-first-clause-none : goal.returns-in_err-first-clause-none
returns-in_err-first-clause-none c =
    let none = none_is_first c.args.text.now
    (c.in_err-first.ensures.value ∙ ap (λ (t : List ℕ). slice_get t 0) c.as_bytes.ensures.value) in
    if_none _ c.from_residual.result
    (λ number fits is. (let h : ⊥ = omega (
      arith,
      none,
      first_is c.args.text.now number fits is (not_zero c.args.text.now c.eq.result c.eq.ensures c.if-eq.false),
    ) in h))

pub returns-then-first-le48-clause-none : goal.returns-then-first-le48-clause-none
returns-then-first-le48-clause-none c =
    let first = get_or_from_slice_get c.args.text.now 0 c.in_ok-first.first.now 0
    (sym (c.in_ok-first.ensures.value ∙ ap (λ (t : List ℕ). slice_get t 0) c.as_bytes.ensures.value)) in
    λ number fits is. omega (
      arith,
      first,
      c.if-first-le48.true,
      first_is c.args.text.now number fits is (not_zero c.args.text.now c.eq.result c.eq.ensures c.if-eq.false),
    )

pub returns-clause-some : goal.returns-clause-some
returns-clause-some c =
    let first = get_or_from_slice_get c.args.text.now 0 c.in_ok-first.first.now 0
    (sym (c.in_ok-first.ensures.value ∙ ap (λ (t : List ℕ). slice_get t 0) c.as_bytes.ensures.value)) in
    let past : 48 < get_or c.args.text.now 0 0 = omega (arith, first, c.if-first-le48.false) in
    rw c.ok.ensures.value (some_of c.args.text.now c.parse.result c.parse.ensures.value.0 past)

pub returns-clause-none : goal.returns-clause-none
returns-clause-none c = rw c.ok.ensures.value (none_of c.args.text.now c.parse.result c.parse.ensures.value.0)
