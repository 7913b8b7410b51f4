use Rattle.std.proofs.Common.{List, ℕ, [], ◌∷◌, ◌∙◌, ap, arith, length, length-append, refl, subst, sym}
use Rattle.std.proofs.lemmas.Bool.{eq-eqb, eqb-true, false≢true}
use Rattle.std.proofs.lemmas.List.{nil_from_length}
use Rattle.lms_inspect.specs.Signatures.{SaysThrough}
use Rattle.lms_inspect.specs.declared.signature.KeyedLevel.{KeyedLevel}
use Rattle.lms_inspect.proofs.Cuts.{through-end, through-next, through-push}
use Rattle.lms_inspect.proofs.signature.keyed_levels.Goals as goal

pub loop-turn-init : goal.loop-turn-init
loop-turn-init c = rw c.new-levels.ensures.items (refl, refl)

pub returns-in_default-clause-none : goal.returns-in_default-clause-none
returns-in_default-clause-none c levels long through =
    let was = c.loop-turn.invariant in
    let next = through-next c.loop-turn.levels.items levels c.args.text.now c.loop-turn.rest.now [] was.1 through
    (omega (arith, was.0, long, c.loop-turn-test.true)) in
    c.in_default.ensures.none next.0 next.1 next.2

pub loop-turn-preserved : goal.loop-turn-preserved
loop-turn-preserved c =
    let was = c.loop-turn.invariant in
    let before = c.loop-turn.levels.items in
    let one = c.in-Some in
    let items = c.in_ok-push.ensures.items in (
      omega (arith, ap length items, length-append before (one.level ∷ []), was.0),
      subst (λ (levels : List KeyedLevel). SaysThrough levels c.args.text.now one.after.now) (sym items)
          (through-push before one.level c.args.text.now c.loop-turn.rest.now one.after.now was.1 one.ensures.some),
    )

pub returns-then-is_empty-clause-some : goal.returns-then-is_empty-clause-some
returns-then-is_empty-clause-some c =
    let was = c.loop-turn.invariant in
    let none = nil_from_length c.loop-turn.rest.now (eqb-true _ _ (sym c.is_empty.ensures ∙ c.if-is_empty.true)) in (
      omega (arith, was.0, c.loop-turn-test.false, c.loop-turn.auto._turn-end),
      subst (λ (rest : List ℕ). SaysThrough c.loop-turn.levels.items c.args.text.now rest) none was.1,
    )

pub returns-else-is_empty-clause-none : goal.returns-else-is_empty-clause-none
returns-else-is_empty-clause-none c levels long through =
    let was = c.loop-turn.invariant in
    let none = through-end c.loop-turn.levels.items levels c.args.text.now c.loop-turn.rest.now [] was.1 through
    (omega (arith, was.0, long, c.loop-turn-test.false, c.loop-turn.auto._turn-end)) in
    false≢true (sym c.if-is_empty.false ∙ c.is_empty.ensures ∙ eq-eqb _ _ (ap length none))
