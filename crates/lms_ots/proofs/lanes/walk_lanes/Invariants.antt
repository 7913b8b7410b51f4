use Rattle.std.proofs.Common.{◌≡◌, ◌++◌, ◌<◌, ℕ, [], length, get_or, slice_index}
use Rattle.lms_spec.specs.Bytes.{u16str}
use Rattle.lms_spec.specs.Hashing.{hash_prefix}
use Rattle.lms_ots.proofs.lanes.walk_lanes.Given as goal

abbrev pub invariant-lanes : goal.invariant-lanes
invariant-lanes l = record {
  long : length l.heads ≡ 8;
  heads : (j : ℕ) → j < l.k → get_or l.heads j [] ≡ hash_prefix l.id.i l.id.q ++ u16str (slice_index l.fn.chains j);
}
