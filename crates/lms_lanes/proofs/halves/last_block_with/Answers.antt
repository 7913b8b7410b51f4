use Rattle.std.proofs.Common.{◌∙◌, ℕ, sym}
use Rattle.lms_lanes.specs.Ends.{block_words}
use Rattle.lms_lanes.specs.Lanes.{lane_of}
use Rattle.lms_lanes.proofs.EndsText.{words_of_last_block_with}
use Rattle.lms_lanes.proofs.Lanes.{EachLane-splat}
use Rattle.lms_lanes.proofs.halves.last_block_with.Goals as goal

pub returns-clause-lanes : goal.returns-clause-lanes
returns-clause-lanes c = λ k lt text begins.
    let value = lane_of c.args.value.now k in
    let word = λ (n : ℕ). (EachLane-splat n).lane k lt in
    c.block_with.ensures.lanes k lt text begins
    ∙ (λ i. block_words text value (word 0x80000000 i) (word 0 i) (word c.args.bits i))
    ∙ sym (words_of_last_block_with text value c.args.bits begins.long c.ranges.bits.fits)
