use Rattle.std.proofs.Common.{◌++◌, take}
use Rattle.lms_blocks.proofs.Consumed.{consumes-both}
use Rattle.lms_disk.proofs.contents.hand_blocks.Goals as goal

pub loop-turn-preserved : goal.loop-turn-preserved
loop-turn-preserved g c =
    let was = c.loop-turn.invariant in
    let piece = take c.in_ok-count.count c.read_block.new.block in (
      was.0 ++ piece,
      consumes-both _ _ _ was.0 piece was.1 c.in_ok-count.ensures.bytes,
      g.met.T.Taker.more _ _ _ was.0 piece was.2 c.take.ensures,
    )
