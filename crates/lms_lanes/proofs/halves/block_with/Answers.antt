use Rattle.std.proofs.Common.{◌∙◌}
use Rattle.lms_lanes.proofs.Heads.{block_of_head, opened_half}
use Rattle.lms_lanes.proofs.Lanes.{◌beside◌, lane_of_eight, no_more, EachLane-self}
use Rattle.lms_lanes.proofs.halves.block_with.Goals as goal

pub returns-clause-lanes : goal.returns-clause-lanes
returns-clause-lanes c = λ k lt text begins.
    let rest = c.args.rest.now in
    let long = c.requires.rest.long in
    let sixth = c.half_opened.ensures.words.lane k lt
    ∙ opened_half rest k text long begins _ (c.half_opened.ensures.head_fits k lt)
    (c.half_opened.ensures.word_fits k lt) in
    let others = c.halves.ensures beside c.halves-2.ensures beside c.halves-3.ensures beside c.halves-4.ensures
    beside c.halves-5.ensures beside c.halves-6.ensures beside c.halves-7.ensures beside c.halves-8.ensures
    beside EachLane-self c.args.before_last c.fits-before_last.0 beside EachLane-self c.args.last c.fits-last.0
    beside no_more in
    rw (lane_of_eight c.args.value.now k c.requires.value.long)
    (block_of_head rest k text long begins sixth (others.lane k lt))
