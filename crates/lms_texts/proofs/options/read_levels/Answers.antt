use Rattle.std.proofs.Common.{length, ap, ◌∙◌, lit<}
use Rattle.std.proofs.lemmas.Iterator.Consumers.{YieldsList-end, YieldsList-turn}
use Rattle.std.proofs.lemmas.Iterator.Splits.{YieldsList-from_str_split}
use Rattle.std.specs.Str.Iter.{split_has_more, split_pattern, split_text}
use Rattle.lms_texts.proofs.LevelTexts.{levels_of_pieces, no_levels}
use Rattle.lms_texts.proofs.options.read_levels.Goals as goal

pub returns-in_default-clause-bad : goal.returns-in_default-clause-bad
returns-in_default-clause-bad c =
    let split = c.split-piece-items.ensures in
    let same = c.into_iter-piece-iterator.ensures.into_iter_gives in
    let all = YieldsList-from_str_split {s = c.into_iter-piece-iterator.result} 44 c.args.text.now (lit< tt)
    (ap split_text same ∙ split.text) (ap split_has_more same ∙ split.has_more)
    (ap split_pattern same ∙ split.pattern) in
    let turn = YieldsList-turn all c.loop-piece.yielded _ c.loop-piece.yielded_by _ _ c.in-Some.piece c.in-Some.is
    c.next.ensures.steps in
    λ bad. no_levels c.args.text.now c.in-Some.piece.now (length c.loop-piece.yielded) turn c.in_default.ensures.none

pub returns-clause-levels : goal.returns-clause-levels
returns-clause-levels c =
    let split = c.split-piece-items.ensures in
    let same = c.into_iter-piece-iterator.ensures.into_iter_gives in
    let all = YieldsList-from_str_split {s = c.into_iter-piece-iterator.result} 44 c.args.text.now (lit< tt)
    (ap split_text same ∙ split.text) (ap split_has_more same ∙ split.has_more)
    (ap split_pattern same ∙ split.pattern) in
    let end = YieldsList-end all c.loop-piece.yielded _ c.loop-piece.yielded_by _ _ c.in-None.is c.next.ensures.steps in
    levels_of_pieces c.args.text.now c.loop-piece.pairs.items (c.loop-piece.invariant ∙ end.0)
