use Rattle.std.proofs.Common.{◌≡◌, drop}
use Rattle.lms_book.specs.History.{counter_of, leases, has_range, range_of}
use Rattle.lms_book.proofs.history.is_given.Given as goal

abbrev pub invariant-loop-entry : goal.invariant-loop-entry
invariant-loop-entry l = record {
  counter : counter_of l.at (drop l.entry-index l.history) ≡ counter_of l.base l.history;
  answer : has_range (range_of l.start l.len) (leases l.at (drop l.entry-index l.history))
      ≡ has_range (range_of l.start l.len) (leases l.base l.history);
}
