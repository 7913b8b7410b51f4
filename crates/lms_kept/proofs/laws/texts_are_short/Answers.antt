use Rattle.lms_kept.proofs.TextLengths.{text-short}
use Rattle.lms_kept.proofs.laws.texts_are_short.Goals as goal

pub returns-clause-short : goal.returns-clause-short
returns-clause-short c = text-short
