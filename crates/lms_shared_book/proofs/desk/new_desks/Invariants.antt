use Rattle.std.proofs.Common.{◌≡◌, ◌+◌, vec_len}
use Rattle.std.specs.Prelude.{replicate, vec_capacity}
use Rattle.lms_shared_book.specs.Desks.{sums}
use Rattle.lms_shared_book.proofs.desk.new_desks.Given as goal

abbrev pub invariant-loop : goal.invariant-loop
invariant-loop g l = record {
  desks : l.desks.items ≡ replicate l.counter (sums 0 0 0);
  len : vec_len l.desks ≡ l.counter;
  capacity : vec_capacity l.desks ≡ vec_capacity l.initial.desks;
  parts : l.shares.parts + l.counter ≡ l.count + 1;
  counted : l.shares.counted ≡ l.initial.shares.counted;
}
