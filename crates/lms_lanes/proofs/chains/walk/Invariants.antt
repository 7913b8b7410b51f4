use Rattle.std.proofs.Common.{◌≡◌, ℕ, ◌<◌, List, min, slice_index}
use Rattle.sha2.specs.Sha256.{digest_bytes}
use Rattle.lms_lanes.specs.Chains.{HasHead, walked}
use Rattle.lms_lanes.specs.Lanes.{AreVectors, lane_of}
use Rattle.lms_lanes.proofs.chains.walk.Given as goal

abbrev pub invariant-steps : goal.invariant-steps
invariant-steps l = record {
  vectors : AreVectors 8 l.now;
  lanes : (k : ℕ) → k < 8 → (text : List ℕ) → HasHead (lane_of l.head k) text
      → digest_bytes (lane_of l.now k) 8
      ≡ walked text (slice_index l.first k) (min l.i (slice_index l.fn.steps k)) (digest_bytes (lane_of l.start k) 8);
}
