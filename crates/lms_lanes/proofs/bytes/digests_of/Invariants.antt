use Rattle.std.proofs.Common.{◌≡◌, ℕ, ◌<◌, [], length, get_or}
use Rattle.sha2.specs.Sha256.{digest_bytes}
use Rattle.lms_lanes.specs.Lanes.{lane_of}
use Rattle.lms_lanes.proofs.bytes.digests_of.Given as goal

abbrev pub invariant-lanes : goal.invariant-lanes
invariant-lanes l = record {
  long : length l.digests ≡ 8;
  digests : (j : ℕ) → j < l.k → get_or l.digests j [] ≡ digest_bytes (lane_of l.hash j) 8;
}
