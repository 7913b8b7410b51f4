use Rattle.std.proofs.Common.{◌≡◌, ◌<◌, ◌⊎◌, inl, inr, sym, ◌∙◌, arith}
use Rattle.lms_image.proofs.Faults.{truncated, not-an-image, unknown-version, bad-levels, headed, versioned}
use Rattle.lms_image.proofs.image.read_head.Goals as goal

pub returns-in_default-clause-err : goal.returns-in_default-clause-err
returns-in_default-clause-err c = truncated c.args.text.now c.in_default.ensures.none

pub returns-then-ne-clause-err : goal.returns-then-ne-clause-err
returns-then-ne-clause-err c =
    let head = c.in-Some.head in
    let is = c.in-Some.ensures in
    not-an-image c.args.text.now head.magic.now head.rest.now head.version head.levels
    (record { start_length = is.magic; version_fits = is.version; count_fits = is.levels; parts = is.parts })
    (sym c.ne.ensures ∙ c.if-ne.true)

pub returns-in_default-from_code-clause-err : goal.returns-in_default-from_code-clause-err
returns-in_default-from_code-clause-err c =
    let head = c.in-Some.head in
    let is = c.in-Some.ensures in
    unknown-version c.args.text.now head.rest.now head.version head.levels
    (headed c.args.text.now head.magic.now head.rest.now head.version head.levels
    (record { start_length = is.magic; version_fits = is.version; count_fits = is.levels; parts = is.parts })
    (sym c.ne.ensures ∙ c.if-ne.false))
    c.in_default-from_code.ensures.not_first c.in_default-from_code.ensures.not_second

pub returns-then-head-eq0-clause-err : goal.returns-then-head-eq0-clause-err
returns-then-head-eq0-clause-err c =
    let head = c.in-Some.head in
    let is = c.in-Some.ensures in
    let bad : (head.levels ≡ 0) ⊎ (8 < head.levels) =
    elim c.then-head-eq0.either [ inl e ↦ inl e | inr h ↦ inr h.1 ] in
    bad-levels c.args.text.now head.rest.now c.in-Some-from_code.version head.levels
    (versioned c.args.text.now head.rest.now head.version head.levels c.in-Some-from_code.version
    (headed c.args.text.now head.magic.now head.rest.now head.version head.levels
    (record { start_length = is.magic; version_fits = is.version; count_fits = is.levels; parts = is.parts })
    (sym c.ne.ensures ∙ c.if-ne.false)) c.in-Some-from_code.ensures.some)
    bad

pub returns-clause-ok : goal.returns-clause-ok
returns-clause-ok c =
    let head = c.in-Some.head in
    let is = c.in-Some.ensures in
    let front = versioned c.args.text.now head.rest.now head.version head.levels c.in-Some-from_code.version
    (headed c.args.text.now head.magic.now head.rest.now head.version head.levels
    (record { start_length = is.magic; version_fits = is.version; count_fits = is.levels; parts = is.parts })
    (sym c.ne.ensures ∙ c.if-ne.false)) c.in-Some-from_code.ensures.some in
    record { some_level = omega arith; eight_at_most = omega arith; parts = front.parts }
