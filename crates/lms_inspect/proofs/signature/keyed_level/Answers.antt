use Rattle.std.proofs.Common.{◌++◌, ◌∙◌, ap, ap₂, arith, length, sym, take-append-drop}
use Rattle.std.proofs.lemmas.List.{length-take-le}
use Rattle.lms_inspect.proofs.Cuts.{after-key, keyed-codes, keyed-long, keyed-of}
use Rattle.lms_inspect.proofs.signature.keyed_level.Goals as goal
use Rattle.lms_inspect.proofs.signature.keyed_level.Goals.{then-code-via-then-code, then-code-via-else-code+then-code-2}

pub returns-in_err-key-clause-none : goal.returns-in_err-key-clause-none
returns-in_err-key-clause-none c =
    rw c.from_residual.ensures
    (λ level rest is. absurd (omega (arith, c.in_err-key.ensures.cases, keyed-long level c.args.text.now rest is)))

pub returns-in_err-parts-clause-none : goal.returns-in_err-parts-clause-none
returns-in_err-parts-clause-none c =
    let cut = c.in_ok-key.ensures.cases in
    let text = c.args.text.now in
    let long = ap length cut.1 ∙ length-take-le 56 text (omega (arith, cut.0)) in
    let whole = sym (ap₂ (λ x y. x ++ y) cut.1 cut.2 ∙ take-append-drop 56 text) in
    rw c.from_residual-in_err-parts.ensures
    (λ level rest is.
    c.in_err-parts.ensures.none _ _ _ is.root
    (after-key level text c.in_ok-key.key.now c.in_ok-key.rest.now rest long whole is).0)

pub returns-in_err-level-clause-none : goal.returns-in_err-level-clause-none
returns-in_err-level-clause-none c =
    let cut = c.in_ok-key.ensures.cases in
    let text = c.args.text.now in
    let long = ap length cut.1 ∙ length-take-le 56 text (omega (arith, cut.0)) in
    let whole = sym (ap₂ (λ x y. x ++ y) cut.1 cut.2 ∙ take-append-drop 56 text) in
    rw c.from_residual-in_err-level.ensures
    (λ level rest is.
    c.in_err-level.ensures.none level.level rest
    (after-key level text c.in_ok-key.key.now c.in_ok-key.rest.now rest long whole is).1)

pub returns-then-code-clause-none : goal.returns-then-code-clause-none
returns-then-code-clause-none c level rest is =
    let cut = c.in_ok-key.ensures.cases in
    let text = c.args.text.now in
    let whole = sym (ap₂ (λ x y. x ++ y) cut.1 cut.2 ∙ take-append-drop 56 text) in
    let same = keyed-codes c.in_ok-parts.parts c.in_ok-level.level level text c.in_ok-key.key.now c.in_ok-key.rest.now
    c.in_ok-level.rest.now rest c.in_ok-parts.ensures.some c.in_ok-level.ensures.some whole is in
    elim c.then-code.branch [
      | then-code-via-then-code w ↦ absurd (omega (arith, w.if-code.true, c.code.ensures, c.code-2.ensures, same.0))
      | then-code-via-else-code+then-code-2 w ↦
          absurd (omega (arith, w.if-code-2.true, w.code-else-code.ensures, w.code-else-code-2.ensures, same.1))
    ]

pub returns-clause-some : goal.returns-clause-some
returns-clause-some c =
    let cut = c.in_ok-key.ensures.cases in
    let text = c.args.text.now in
    let whole = sym (ap₂ (λ x y. x ++ y) cut.1 cut.2 ∙ take-append-drop 56 text) in
    keyed-of c.in_ok-parts.parts c.in_ok-level.level text c.in_ok-key.key.now c.in_ok-key.rest.now c.in_ok-level.rest.now
    c.in_ok-parts.ensures.some c.in_ok-level.ensures.some whole
    (omega (arith, c.if-code.false, c.code.ensures, c.code-2.ensures))
    (omega (arith, c.if-code-2.false, c.code-else-code.ensures, c.code-else-code-2.ensures))
