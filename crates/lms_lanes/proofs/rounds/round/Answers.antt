use Rattle.std.proofs.Common.{◌<◌, ◌∙◌, ℕ, arith, refl}
use Rattle.sha2.specs.Sha256.{add32}
use Rattle.lms_lanes.proofs.Lanes.{◌beside◌, lane_of_eight, no_more, EachLane-zip2, EachLane-get_or, EachLane-self}
use Rattle.lms_lanes.proofs.Lanes.{EachLane-splat}
use Rattle.lms_lanes.proofs.rounds.round.Goals as goal

pub returns : goal.returns
returns c =
    let v = c.args.v in
    let old = λ (i : ℕ) (low : i < 8). EachLane-get_or 8 v i c.requires low in
    let temp1 = EachLane-zip2 add32
    (EachLane-zip2 add32
    (EachLane-zip2 add32 (EachLane-zip2 add32 (old 7 (omega arith)) c.big_sigma1.ensures) c.ch.ensures)
    (EachLane-splat c.args.constant)) (EachLane-self c.args.word c.fits-word.0) in
    let a = EachLane-zip2 add32 temp1 (EachLane-zip2 add32 c.big_sigma0.ensures c.maj.ensures) in
    let e = EachLane-zip2 add32 (old 3 (omega arith)) temp1 in
    let words = a beside old 0 (omega arith) beside old 1 (omega arith) beside old 2 (omega arith)
    beside e beside old 4 (omega arith) beside old 5 (omega arith) beside old 6 (omega arith) beside no_more in
    record {
      vectors = record { long = refl; wide = words.wide };
      lanes = λ k lt. words.lane k lt ∙ rw (lane_of_eight v k c.requires.long) refl;
    }
