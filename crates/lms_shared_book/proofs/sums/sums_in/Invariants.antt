use Rattle.std.proofs.Common.{◌≡◌, ◌+◌, drop}
use Rattle.lms_book.specs.History.{given_of, burnt_of}
use Rattle.lms_shared_book.proofs.sums.sums_in.Given as goal

abbrev pub invariant-loop-entry : goal.invariant-loop-entry
invariant-loop-entry l = record {
  given : l.given + given_of (drop l.entry-index l.history) ≡ given_of l.history;
  burnt : l.burnt + burnt_of (drop l.entry-index l.history) ≡ burnt_of l.history;
}
