use Rattle.std.proofs.Common.{◌∙◌, ◌+◌, ◌%◌, ℕ, slice_index, sym, arith}
use Rattle.lms_lanes.proofs.ChainText.{words_of_step}
use Rattle.lms_lanes.proofs.Heads.{block_of_head, opened_word}
use Rattle.lms_lanes.proofs.Lanes.{◌beside◌, lane_of_eight, no_more, EachLane-splat}
use Rattle.lms_lanes.proofs.blocks.block_at.Goals as goal

pub returns-clause-lanes : goal.returns-clause-lanes
returns-clause-lanes c = λ k lt text begins.
    let head = c.args.head.now in
    let long = c.requires.head.long in
    let byte : ℕ = (slice_index c.args.first k + c.args.i) % 256 in
    let sixth = c.opened.ensures.words.lane k lt
    ∙ rw (c.byte_at.ensures.lane k lt)
    (opened_word head k text long begins byte _ (c.opened.ensures.head_fits k lt) (omega arith)
    (c.opened.ensures.word_fits k lt)) in
    let others = c.joined.ensures beside c.joined-2.ensures beside c.joined-3.ensures beside c.joined-4.ensures
    beside c.joined-5.ensures beside c.joined-6.ensures beside c.joined-7.ensures beside c.ended.ensures
    beside EachLane-splat 0 beside EachLane-splat 440 beside no_more in
    rw (lane_of_eight c.args.value.now k c.requires.value.long)
    (block_of_head head k text long begins sixth (others.lane k lt) ∙ sym (words_of_step text _ byte begins.long))
