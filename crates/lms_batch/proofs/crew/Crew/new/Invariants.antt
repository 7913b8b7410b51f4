use Rattle.std.proofs.Common.{◌≡◌, ◌≤◌, vec_len, length, All}
use Rattle.std.specs.Vec.{vec_capacity}
use Rattle.lms_batch.proofs.crew.Crew.new.Given as goal

abbrev pub invariant-loop : goal.invariant-loop
invariant-loop l =
    (vec_len l.lists ≡ l.counter) × All (λ list. (vec_len list ≡ 0) × (length l.jobs ≤ vec_capacity list)) l.lists.items
