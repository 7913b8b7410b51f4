use Rattle.std.proofs.Common.{◌∙◌, sym, arith}
use Rattle.lms_lanes.proofs.EndsText.{words_of_last_block}
use Rattle.lms_lanes.proofs.Heads.{block_of_head, opened_half}
use Rattle.lms_lanes.proofs.Lanes.{◌beside◌, no_more, EachLane-splat}
use Rattle.lms_lanes.proofs.halves.last_block.Goals as goal

pub returns-clause-lanes : goal.returns-clause-lanes
returns-clause-lanes c = λ k lt text begins.
    let rest = c.args.rest.now in
    let long = c.requires.rest.long in
    let sixth = c.half_opened.ensures.words.lane k lt
    ∙ rw ((EachLane-splat 0x80000000).lane k lt)
    (opened_half rest k text long begins 0x80000000 (c.half_opened.ensures.head_fits k lt) (omega arith)) in
    let zero = EachLane-splat 0 in
    let others = zero beside zero beside zero beside zero beside zero beside zero beside zero beside zero beside zero
    beside EachLane-splat c.args.bits beside no_more in
    block_of_head rest k text long begins sixth (others.lane k lt)
    ∙ sym (words_of_last_block text c.args.bits begins.long c.ranges.bits.fits)
