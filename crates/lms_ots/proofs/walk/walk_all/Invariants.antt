use Rattle.std.proofs.Common.{◌-◌, length, min, ◌≡◌, ◌<◌, ◌≤◌, ℕ, [], get_or, slice_index}
use Rattle.lms_params.specs.OtsType.{ots_set_of}
use Rattle.lms_ots.specs.Walks.{IsTaken, chain_at}
use Rattle.lms_ots.proofs.walk.walk_all.Given as goal

abbrev pub invariant-segments : goal.invariant-segments
invariant-segments l = record {
  long : length l.chains ≡ 8;
  within : (k : ℕ) → k < 8 → slice_index l.chains k < (ots_set_of l.fn.t).p;
  less : (i : ℕ) → slice_index l.left i ≤ slice_index l.fn.steps i;
  values : (i : ℕ) → i < (ots_set_of l.fn.t).p → get_or l.ends i []
      ≡ chain_at l.id.i l.id.q l.fn.firsts l.fn.steps
      (λ i. get_or l.fn.starts (min i (length l.fn.starts - 1)) []) i (slice_index l.left i);
  limit : l.next ≤ (ots_set_of l.fn.t).p;
  taken : (m : ℕ) → m < l.next → IsTaken l.order l.chains l.left m;
}

abbrev pub decreases-segments : goal.decreases-segments
decreases-segments l = (ots_set_of l.fn.t).p - l.next
