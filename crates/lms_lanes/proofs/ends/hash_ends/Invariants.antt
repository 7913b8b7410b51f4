use Rattle.std.proofs.Common.{ℕ, ◌*◌, ◌<◌, [], get_or}
use Rattle.lms_lanes.specs.Lanes.{AreVectors, lane_of}
use Rattle.lms_lanes.specs.Ends.{ends_text}
use Rattle.lms_lanes.proofs.Absorbed.{IsAbsorbed}
use Rattle.lms_lanes.proofs.ends.hash_ends.Given as goal

abbrev pub invariant-pairs : goal.invariant-pairs
invariant-pairs l = record {
  hash : AreVectors 8 l.hash;
  rest : AreVectors 6 l.rest;
  lanes : (k : ℕ) → k < 8 → IsAbsorbed (lane_of l.hash k) (lane_of l.rest k)
      (ends_text (get_or l.fronts k []) l.mark (2 * l.pair) l.first l.steps l.start) l.pair;
}
