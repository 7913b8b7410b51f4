use Rattle.std.proofs.Common.{◌≡◌, ◌<◌, ◌≤◌, ℕ, length, slice_index}
use Rattle.lms_params.specs.OtsType.{ots_set_of}
use Rattle.lms_ots.specs.Walks.{IsTaken}
use Rattle.lms_ots.proofs.walk.refill.Given as goal

abbrev pub invariant-lanes : goal.invariant-lanes
invariant-lanes l = record {
  long : length l.chains ≡ 8;
  from : l.next ≤ l.place;
  limit : l.place ≤ (ots_set_of l.fn.t).p;
  within : (j : ℕ) → j < 8 → slice_index l.chains j < (ots_set_of l.fn.t).p;
  kept : (j : ℕ) → l.k ≤ j → slice_index l.chains j ≡ slice_index l.fn.chains j;
  more : (j : ℕ) → j < l.k → slice_index l.left (slice_index l.fn.chains j) ≡ 0 → l.next < l.place;
  taken : ((m : ℕ) → m < l.next → IsTaken l.order l.fn.chains l.left m)
      → (m : ℕ) → m < l.place → IsTaken l.order l.chains l.left m;
}
