use Rattle.std.proofs.Common.{◌∙◌, arith}
use Rattle.std.proofs.Math.ListN.{length-set}
use Rattle.lms_image.proofs.LevelTexts.{sets-more}
use Rattle.lms_image.proofs.image.read_sets.Goals as goal

pub loop-k-preserved : goal.loop-k-preserved
loop-k-preserved c =
    let eight = c.loop-k.invariant.eight in record {
      sets = sets-more c.loop-k.sets c.args.texts.now c.loop-k.k c.in_ok-sets.field-0 (omega arith)
          (omega arith) c.loop-k.invariant.sets
          c.in_ok-sets.ensures.some;
      eight = length-set c.loop-k.sets c.loop-k.k c.in_ok-sets.field-0 ∙ eight;
    }
