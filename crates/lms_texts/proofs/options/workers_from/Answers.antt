use Rattle.std.proofs.Common.{List, ℕ, ◌<◌, get_or, ap, sym, ◌∙◌, arith}
use Rattle.std.specs.Prelude.{slice_get}
use Rattle.std.proofs.lemmas.Option.{get_or_from_slice_get}
use Rattle.lms_texts.proofs.LevelTexts.{if_none}
use Rattle.lms_texts.proofs.Workers.{first_is_past_zero, is_text_of, none_is_first, ok_is, workers_are_read}
use Rattle.lms_texts.proofs.options.workers_from.Goals as goal

pub returns-in_err-first-clause-none : goal.returns-in_err-first-clause-none
returns-in_err-first-clause-none c =
    let none = none_is_first c.args.text.now
    (c.in_err-first.ensures.value ∙ ap (λ (t : List ℕ). slice_get t 0) c.as_bytes.ensures.value) in
    if_none _ c.from_residual.result
    (λ are. (let h : ⊥ = omega (arith, first_is_past_zero c.args.text.now are, none) in h))

pub returns-then-first-le48-clause-none : goal.returns-then-first-le48-clause-none
returns-then-first-le48-clause-none c =
    let first = get_or_from_slice_get c.args.text.now 0 c.in_ok-first.first.now 0
    (sym (c.in_ok-first.ensures.value ∙ ap (λ (t : List ℕ). slice_get t 0) c.as_bytes.ensures.value)) in
    λ are. omega (arith, first_is_past_zero c.args.text.now are, first, c.if-first-le48.true)

pub returns-in-Ok-clause-some : goal.returns-in-Ok-clause-some
returns-in-Ok-clause-some c =
    let first = get_or_from_slice_get c.args.text.now 0 c.in_ok-first.first.now 0
    (sym (c.in_ok-first.ensures.value ∙ ap (λ (t : List ℕ). slice_get t 0) c.as_bytes.ensures.value)) in
    let past : 48 < get_or c.args.text.now 0 0 = omega (arith, first, c.if-first-le48.false) in (
      c.if-workers-ge1.true,
      c.if-workers-le-MOST_WORKERS.true,
      is_text_of c.args.text.now c.parse.result c.in-Ok.workers c.parse.ensures.value.0 past c.in-Ok.is,
    )

pub returns-in_default-clause-none : goal.returns-in_default-clause-none
returns-in_default-clause-none c = λ are.
    let read = workers_are_read c.args.text.now c.parse.result c.parse.ensures.value.0 are in
    let same = ok_is c.parse.result c.in-Ok.workers read.0 c.in-Ok.is read.3 in
    omega (arith, read.2, same, c.if-workers-le-MOST_WORKERS.false)

pub returns-in_default-2-clause-none : goal.returns-in_default-2-clause-none
returns-in_default-2-clause-none c = λ are.
    let read = workers_are_read c.args.text.now c.parse.result c.parse.ensures.value.0 are in
    let same = ok_is c.parse.result c.in-Ok.workers read.0 c.in-Ok.is read.3 in
    omega (arith, read.1, same, c.if-workers-ge1.false)

pub returns-in_default-3-clause-none : goal.returns-in_default-3-clause-none
returns-in_default-3-clause-none c = λ are.
    let read = workers_are_read c.args.text.now c.parse.result c.parse.ensures.value.0 are in
    let other = sym c.in_default.is ∙ read.3 in
    cc
