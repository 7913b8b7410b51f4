use Rattle.lms_book.proofs.Moments.{no_third_text}
use Rattle.lms_book.proofs.laws.no_third_text_is_left.Goals as goal

pub returns : goal.returns
returns c = no_third_text
