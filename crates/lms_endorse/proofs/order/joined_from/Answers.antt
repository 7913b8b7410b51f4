use Rattle.std.proofs.Common.{◌≡◌, ◌∙◌, ◌<◌, ◌^◌, ℕ, arith, sym}
use Rattle.std.proofs.lemmas.Fmt.{decimal_injective}
use Rattle.lms_endorse.proofs.order.joined_from.Goals as goal

pub returns-in_default-clause-none : goal.returns-in_default-clause-none
returns-in_default-clause-none c = λ joined is.
    let most = is.eight_at_most in
    let fits : c.in-Some.joined < 2 ^ 64 = search in
    let same = decimal_injective c.in-Some.joined joined fits (omega arith)
    (sym c.in-Some.ensures.some ∙ is.text_is) in
    omega (arith, same, most, c.if-joined.false)

pub returns-in_default-2-clause-none : goal.returns-in_default-2-clause-none
returns-in_default-2-clause-none c = λ joined is.
    let most = is.eight_at_most in
    let fits : c.in-Some.joined < 2 ^ 64 = search in
    let same = decimal_injective c.in-Some.joined joined fits (omega arith)
    (sym c.in-Some.ensures.some ∙ is.text_is) in
    omega (arith, same, is.two_at_least, c.if-joined-ge2.false)
