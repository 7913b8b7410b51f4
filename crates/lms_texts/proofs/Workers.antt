-- The text of a number of workers.
use Rattle.std.proofs.Common.{◌≡◌, ◌≢◌, ◌∙◌, ℕ, ◌<◌, ◌≤◌, ◌^◌, List, length, get_or, Option, None, Result, Ok, Err}
use Rattle.std.proofs.Common.{refl, sym, ap, arith, decimal, lit<}
use Rattle.std.specs.Prelude.{slice_get}
use Rattle.std.specs.Option.{unwrap_or}
use Rattle.std.proofs.lemmas.Option.{unwrap_or-slice_get}
use Rattle.std.specs.Str.Parse.{ParsesUnsigned, AllDigits, digits_value}
use Rattle.std.proofs.lemmas.Fmt.{decimal-digits_value, first_decimal, parse-decimal}
use Rattle.std.proofs.lemmas.Result.{OkIff-at_ok}
use Rattle.std.proofs.lemmas.Str.Parse.{IsNumeralModel, parse_plain}
use Rattle.lms_texts.specs.Options.{AreWorkers}

own : IsNumeralModel (AllDigits 10) (digits_value 10)
own = record { to = λ ds is. is; from = λ ds is. is; same = λ ds is. refl }

-- a text with no first byte
pub none_is_first : (text : List ℕ) → None ≡ slice_get text 0 → get_or text 0 0 ≡ 0
none_is_first text none = sym (unwrap_or-slice_get text 0 0) ∙ ap (λ (o : Option ℕ). unwrap_or o 0) (sym none)

abbrev ok_or : {E : Type 0} → Result ℕ E → ℕ
ok_or (Ok n) = n
ok_or (Err e) = 0

pub ok_is : {E : Type 0} (answer : Result ℕ E) (m n : ℕ) → answer ≡ Ok m → answer ≡ Ok n → m ≡ n
ok_is answer m n is also = ap ok_or (sym is ∙ also)

module _ (text : List ℕ) where
  -- a text that begins with no sign and no zero is that of the number which was read
  pub is_text_of : {E : Type 0} (answer : Result ℕ E) (n : ℕ) → ParsesUnsigned 64 10 text answer → 48 < get_or text 0 0
      → answer ≡ Ok n → text ≡ decimal n
  is_text_of answer n parses first is =
      let no_sign : get_or text 0 0 ≢ 43 = λ sign. (let h : ⊥ = omega (arith, first, sign) in h) in
      let read = OkIff-at_ok answer _ _ n (parse_plain own 64 text answer parses no_sign) is in
      let no_zero : get_or text 0 0 ≡ 48 → length text ≡ 1 =
      λ zero. (let h : ⊥ = omega (arith, first, zero) in absurd h) in
      sym (decimal-digits_value own text read.0.0 read.0.1 no_zero read.0.2) ∙ ap decimal (sym read.1)

  -- the text of a number of workers begins so, and is read
  pub first_is_past_zero : AreWorkers text → 48 < get_or text 0 0
  first_is_past_zero (n, (some, most, is)) =
      let fits : n < 2 ^ 64 = let big : 64 < 2 ^ 64 = lit< tt in omega (arith, most, big) in
      let first = first_decimal n some fits in
      omega (arith, first, ap (λ (t : List ℕ). get_or t 0 0) is)

  pub workers_are_read : {E : Type 0} (answer : Result ℕ E) → ParsesUnsigned 64 10 text answer → AreWorkers text
      → (n : ℕ) × (1 ≤ n) × (n ≤ 64) × (answer ≡ Ok n)
  workers_are_read answer parses (n, (some, most, is)) =
      let fits : n < 2 ^ 64 = let big : 64 < 2 ^ 64 = lit< tt in omega (arith, most, big) in
      (n, some, most, parse-decimal 64 n text answer fits fits is parses)
