use Rattle.lms_kept.proofs.Texts.{text-tells}
use Rattle.lms_kept.proofs.laws.a_text_tells_its_trees.Goals as goal

pub returns : goal.returns
returns c = text-tells
