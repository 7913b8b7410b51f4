use Rattle.std.proofs.Common.{length, take}
use Rattle.lms_image.proofs.LevelTexts.{refused-reads}
use Rattle.lms_image.proofs.image.read_levels.Goals as goal

pub returns-in-Err : goal.returns-in-Err
returns-in-Err c =
    rw c.refused.ensures
    (refused-reads (take (length c.args.texts.now) c.in-Some.sets) c.args.texts.now c.in-Some.ensures.some
    c.requires.some c.requires.at_most
    c.in-Err.fault c.in-Err.ensures)
