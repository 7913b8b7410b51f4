use Rattle.std.proofs.Common.{sym, subst, ◌∙◌}
use Rattle.std.proofs.lemmas.Bool.{false≢true}
use Rattle.lms_texts.specs.Seeds.{IsLineEnd}
use Rattle.lms_texts.proofs.Seeds.{none-seed, seed-ending, some-seed}
use Rattle.lms_texts.proofs.seed.seed_in.Goals as goal

pub returns-then-not-is_line_end-clause-none : goal.returns-then-not-is_line_end-clause-none
returns-then-not-is_line_end-clause-none c = λ seed is.
    let ending = c.split_at.ensures.back ∙ seed-ending c.args.text.now seed is in
    absurd
    (false≢true (sym c.if-not-is_line_end.true ∙ c.is_line_end.ensures.1 (subst IsLineEnd (sym ending) is.line_end)))

pub returns-clause-some : goal.returns-clause-some
returns-clause-some c =
    rw c.ok.ensures.value (some-seed c.args.text.now _ _ c.from_hex.result c.split_at.ensures.by_index.0
    c.split_at.ensures.front_len (c.is_line_end.ensures.0 c.if-not-is_line_end.false) c.from_hex.ensures)

pub returns-clause-none : goal.returns-clause-none
returns-clause-none c =
    rw c.ok.ensures.value (none-seed c.args.text.now _ c.from_hex.result c.split_at.ensures.front
    c.split_at.ensures.front_len c.from_hex.ensures)
