use Rattle.std.proofs.Common.{rules, ◌^◌, ◌≡◌, ◌<◌, ◌++◌, List, ℕ, length, arith, ap}
use Rattle.lms_kept.specs.Ways.{nodes_header}
use Rattle.lms_kept.proofs.KeptTexts.{header-length, header-whole, in-any-case, other-version, other-word}
use Rattle.lms_kept.proofs.kept_text.split_header.Goals as goal

pub returns-clause-some : goal.returns-clause-some
returns-clause-some c =
    let n = c.in_ok-numbers.numbers in
    header-whole c.args.body.now c.in_ok-numbers.rest.now n.word n.version n.at c.in_ok-numbers.ensures.some
    c.if-numbers-ne-WORD.false c.if-numbers-ne-VERSION.false

-- fewer bytes have no such beginning
short : (body : List ℕ) → length body < 16 → (at : ℕ) (rest : List ℕ) → at < 2 ^ 64 → ¬ (body ≡ nodes_header at ++ rest)
short body few at rest fits e = omega (arith, few, ap length e, header-length at rest)

pub returns-in_err-numbers-clause-none : goal.returns-in_err-numbers-clause-none
returns-in_err-numbers-clause-none c =
    in-any-case c.from_residual.result (short c.args.body.now c.in_err-numbers.ensures.none)

pub returns-then-numbers-ne-WORD-clause-none : goal.returns-then-numbers-ne-WORD-clause-none
returns-then-numbers-ne-WORD-clause-none c at rest fits =
    other-word c.args.body.now _ c.in_ok-numbers.numbers.word
    (search rules) c.in_ok-numbers.ensures.some c.if-numbers-ne-WORD.true at rest

pub returns-then-numbers-ne-VERSION-clause-none : goal.returns-then-numbers-ne-VERSION-clause-none
returns-then-numbers-ne-VERSION-clause-none c at rest fits =
    other-version c.args.body.now _ c.in_ok-numbers.numbers.word c.in_ok-numbers.numbers.version
    (search rules) c.in_ok-numbers.ensures.some
    c.if-numbers-ne-VERSION.true at rest
