use Rattle.std.proofs.Common.{◌∙◌, ap, refl}
use Rattle.lms_lanes.specs.Ends.{halves_word}
use Rattle.lms_lanes.specs.Lanes.{lane_of}
use Rattle.lms_lanes.proofs.EndsText.{head_of_rest}
use Rattle.lms_lanes.proofs.Lanes.{◌beside◌, lane_of_eight, no_more, word_in, EachLane-splat, EachLane-equal}
use Rattle.lms_lanes.proofs.halves.rest_of.Goals as goal

pub returns-clause-lanes : goal.returns-clause-lanes
returns-clause-lanes c = λ k lt.
    let b = c.args.value.now in
    let last = EachLane-equal c.halves-6.ensures
    (λ k lt. ap (halves_word (word_in b k 7)) ((EachLane-splat 0).lane k lt)) in
    let words = c.halves.ensures beside c.halves-2.ensures beside c.halves-3.ensures beside c.halves-4.ensures
    beside c.halves-5.ensures beside last beside no_more in
    head_of_rest _ (lane_of b k) (words.lane k lt ∙ rw (lane_of_eight b k c.requires.long) refl)
