use Rattle.std.proofs.Common.{◌≡◌, ◌+◌, ◌≤◌, length, vec_len}
use Rattle.lms_shared_book.specs.Desks.{plus, total}
use Rattle.lms_shared_book.proofs.desk.all_shares.Given as goal

abbrev pub invariant-loop-desk : goal.invariant-loop-desk
invariant-loop-desk g l = record {
  parts : l.all.parts + length l.desks.items ≡ l.fn.shares.parts + length l.fn.desks.items;
  counted : plus l.all.counted (total l.desks.items) ≡ plus l.fn.shares.counted (total l.fn.desks.items);
  apart : l.all.parts ≤ g.E.Ledger.parts;
}

abbrev pub decreases-loop-desk : goal.decreases-loop-desk
decreases-loop-desk g l = vec_len l.desks
