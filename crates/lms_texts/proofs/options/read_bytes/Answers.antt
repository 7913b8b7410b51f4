use Rattle.lms_texts.proofs.SizedTexts.{none_of_length}
use Rattle.lms_texts.proofs.options.read_bytes.Goals as goal

pub returns-clause-none : goal.returns-clause-none
returns-clause-none g c = rw c.ok.ensures.value (none_of_length _ _ c.from_hex.result c.from_hex.ensures)
