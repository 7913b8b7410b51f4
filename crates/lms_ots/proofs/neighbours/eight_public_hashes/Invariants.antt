use Rattle.std.proofs.Common.{◌≡◌, ◌+◌, ◌<◌, ℕ, [], length, get_or}
use Rattle.lms_spec.specs.Hashing.{hash_prefix}
use Rattle.lms_ots.proofs.neighbours.eight_public_hashes.Given as goal

abbrev pub invariant-lanes : goal.invariant-lanes
invariant-lanes l = record {
  long : length l.fronts ≡ 8;
  fronts : (j : ℕ) → j < l.k → get_or l.fronts j [] ≡ hash_prefix l.first.i (l.first.q + j);
}
