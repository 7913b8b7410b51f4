use Rattle.std.specs.Fmt.{digits}
use Rattle.lms_texts.proofs.LevelTexts.{no_height}
use Rattle.lms_texts.proofs.options.lms_type_from.Goals as goal

pub returns-in-text-clause-some : goal.returns-in-text-clause-some
unfolding digits
returns-in-text-clause-some c = c.in-text.is

pub returns-in-text-2-clause-some : goal.returns-in-text-2-clause-some
unfolding digits
returns-in-text-2-clause-some c = c.in-text-2.is

pub returns-in-text-3-clause-some : goal.returns-in-text-3-clause-some
unfolding digits
returns-in-text-3-clause-some c = c.in-text-3.is

pub returns-in-text-4-clause-some : goal.returns-in-text-4-clause-some
unfolding digits
returns-in-text-4-clause-some c = c.in-text-4.is

pub returns-in-text-5-clause-some : goal.returns-in-text-5-clause-some
unfolding digits
returns-in-text-5-clause-some c = c.in-text-5.is

pub returns-in_default-clause-none : goal.returns-in_default-clause-none
returns-in_default-clause-none c =
    let d = c.in_default in
    no_height _ d.not-text d.not-text-2 d.not-text-3 d.not-text-4 d.not-text-5
