use Rattle.lms_texts.proofs.LevelTexts.{if_none, no_slash, slash_parts}
use Rattle.lms_texts.proofs.options.pair_from.Goals as goal

pub returns-in_err-height-clause-none : goal.returns-in_err-height-clause-none
returns-in_err-height-clause-none c = if_none _ c.from_residual.result (no_slash _ c.in_err-height.ensures.cases)

pub returns-in_err-lms_type_from-clause-none : goal.returns-in_err-lms_type_from-clause-none
returns-in_err-lms_type_from-clause-none c = if_none _ c.from_residual-in_err-lms_type_from.result (λ pair is.
    c.in_err-lms_type_from.ensures.none pair.0
    (slash_parts _ (c.in_ok-height.height, c.in_ok-height.width) c.in_ok-height.ensures.cases pair is).0)

pub returns-in_err-ots_type_from-clause-none : goal.returns-in_err-ots_type_from-clause-none
returns-in_err-ots_type_from-clause-none c = if_none _ c.from_residual-in_err-ots_type_from.result (λ pair is.
    c.in_err-ots_type_from.ensures.none pair.1
    (slash_parts _ (c.in_ok-height.height, c.in_ok-height.width) c.in_ok-height.ensures.cases pair is).1)
