use Rattle.std.proofs.Common.{◌≡◌, ◌+◌, ◌≤◌, vec_len, length, All}
use Rattle.std.specs.Vec.{vec_capacity}
use Rattle.lms_batch.proofs.crew.Crew.seated.Given as goal

abbrev pub invariant-loop-list : goal.invariant-loop-list
invariant-loop-list l = record {
  capacity : All (λ list. (vec_len list ≡ 0) × (length l.jobs ≤ vec_capacity list)) l.lists.items;
  fits : vec_len l.workers + vec_len l.lists ≤ vec_capacity l.workers;
  own : All (λ seat. seat.pool ≡ l.lease) l.seats.items;
  each : vec_len l.seats ≡ vec_len l.lists;
  count : vec_len l.workers + vec_len l.lists ≡ vec_len l.fn.seats;
}

abbrev pub decreases-loop-list : goal.decreases-loop-list
decreases-loop-list l = vec_len l.lists
