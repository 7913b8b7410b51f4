use Rattle.std.proofs.Common.{arith, refl, sym}
use Rattle.sha2.proofs.Schedule256.{rounds_first}
use Rattle.lms_lanes.specs.Lanes.{lane_of}
use Rattle.lms_lanes.proofs.Lanes.{word_of_lane}
use Rattle.lms_lanes.proofs.rounds.first_step.Goals as goal

pub returns-clause-lanes : goal.returns-clause-lanes
returns-clause-lanes c = λ k lt b h window held.
    let w = c.args.w.now in
    rounds_first b h (lane_of w k) (lane_of c.args.v k) c.args.t _ _ _ c.requires.place window held refl
    (sym (word_of_lane 16 w k c.args.t c.told-w (omega arith))) (c.round.ensures.lanes k lt)
