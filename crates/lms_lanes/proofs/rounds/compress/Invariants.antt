use Rattle.std.proofs.Common.{◌≡◌, ℕ, List, ◌<◌, ◌*◌}
use Rattle.sha2.specs.Sha256.{IsRoundsAt, first_words}
use Rattle.lms_lanes.specs.Lanes.{AreVectors, lane_of}
use Rattle.lms_lanes.proofs.rounds.compress.Given as goal

abbrev pub invariant-schedule : goal.invariant-schedule
invariant-schedule g l = record {
  window : AreVectors 16 l.w;
  vectors : AreVectors 8 l.v;
  lanes : (k : ℕ) → k < 8 → (b : List ℕ) → lane_of l.fn.block k ≡ first_words b 16
      → IsRoundsAt b (lane_of l.fn.start k) (lane_of l.w k) (lane_of l.v k) (16 * l.turn);
}
