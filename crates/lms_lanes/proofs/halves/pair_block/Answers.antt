use Rattle.std.proofs.Common.{◌∙◌, ap₂, sym}
use Rattle.lms_lanes.specs.Ends.{block_words}
use Rattle.lms_lanes.specs.Lanes.{lane_of}
use Rattle.lms_lanes.proofs.EndsText.{words_of_pair}
use Rattle.lms_lanes.proofs.Lanes.{lane_of_eight, word_in}
use Rattle.lms_lanes.proofs.halves.pair_block.Goals as goal

pub returns-clause-lanes : goal.returns-clause-lanes
returns-clause-lanes c = λ k lt text begins.
    let value = lane_of c.args.value.now k in
    let next = c.args.next.now in
    rw (lane_of_eight next k c.requires.next.long)
    (c.block_with.ensures.lanes k lt text begins
    ∙ ap₂ (block_words text value (word_in next k 0)) (c.halves-before_last.ensures.lane k lt)
    (c.halves-last.ensures.lane k lt)
    ∙ sym (words_of_pair text value _ begins.long))
