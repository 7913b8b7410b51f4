use Rattle.std.proofs.Common.{◌≡◌, ◌*◌, length, take}
use Rattle.sha2.specs.Sha256.{digest_bytes}
use Rattle.lms_lanes.specs.Lanes.{lane_of}
use Rattle.lms_lanes.proofs.bytes.digest_of.Given as goal

abbrev pub invariant-words : goal.invariant-words
invariant-words l = record {
  long : length l.digest ≡ 32;
  made : take (4 * l.i) l.digest ≡ digest_bytes (lane_of l.hash l.lane) l.i;
}
