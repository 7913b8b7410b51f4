use Rattle.std.proofs.Common.{◌<◌, ◌∙◌, ℕ, arith, refl}
use Rattle.sha2.specs.Sha256.{add32}
use Rattle.lms_lanes.proofs.Lanes.{◌beside◌, lane_of_eight, no_more, EachLane-zip2, EachLane-get_or}
use Rattle.lms_lanes.proofs.rounds.added.Goals as goal

pub returns : goal.returns
returns c =
    let h = c.args.h in
    let v = c.args.v in
    let sum = λ (i : ℕ) (low : i < 8). EachLane-zip2 add32 (EachLane-get_or 8 h i c.requires.first low)
    (EachLane-get_or 8 v i c.requires.second low) in
    let words = sum 0 (omega arith) beside sum 1 (omega arith) beside sum 2 (omega arith) beside sum 3 (omega arith)
    beside sum 4 (omega arith) beside sum 5 (omega arith) beside sum 6 (omega arith) beside sum 7 (omega arith)
    beside no_more in
    record {
      vectors = record { long = refl; wide = words.wide };
      lanes = λ k lt.
          words.lane k lt
          ∙ rw (lane_of_eight h k c.requires.first.long, lane_of_eight v k c.requires.second.long) refl;
    }
