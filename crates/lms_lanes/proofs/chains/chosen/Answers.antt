use Rattle.std.proofs.Common.{◌∙◌, refl}
use Rattle.std.proofs.lemmas.Bool.{le-ltb, lt-ltb}
use Rattle.lms_lanes.proofs.Lanes.{◌beside◌, lane_of_eight, no_more}
use Rattle.lms_lanes.proofs.chains.chosen.Goals as goal

pub returns : goal.returns
returns c =
    let words = c.selected.ensures beside c.selected-2.ensures beside c.selected-3.ensures beside c.selected-4.ensures
    beside c.selected-5.ensures beside c.selected-6.ensures beside c.selected-7.ensures beside c.selected-8.ensures
    beside no_more in
    record {
      vectors = record { long = refl; wide = words.wide };
      taken = λ k lt more.
          words.lane k lt ∙ rw (lt-ltb _ _ more, lane_of_eight c.args.next.now k c.requires.next.long) refl;
      left = λ k lt over.
          words.lane k lt ∙ rw (le-ltb _ _ over, lane_of_eight c.args.now.now k c.requires.now.long) refl;
    }
