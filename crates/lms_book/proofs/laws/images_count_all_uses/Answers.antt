use Rattle.lms_book.proofs.Uses.{uses}
use Rattle.lms_book.proofs.laws.images_count_all_uses.Goals as goal

pub returns : goal.returns
returns c = uses
