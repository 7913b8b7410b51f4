use Rattle.lms_pool_tests.proofs.tests.shared_book.desks_of_a_new_book.Given as goal

abbrev pub ghosts-many_desks-E-Ledger : goal.ghosts-many_desks-E-Ledger
ghosts-many_desks-E-Ledger g a = record { name = a.blanks.entries.name; parts = a.blanks.entries.parts }

abbrev pub ghosts-many_desks-G-Ledger : goal.ghosts-many_desks-G-Ledger
ghosts-many_desks-G-Ledger g a = record { name = a.blanks.received.name; parts = a.blanks.received.parts }

abbrev pub ghosts-many_desks-B-Ledger : goal.ghosts-many_desks-B-Ledger
ghosts-many_desks-B-Ledger g a = record { name = a.blanks.burnt.name; parts = a.blanks.burnt.parts }

abbrev pub ghosts-many_desks-E-BookLedger : goal.ghosts-many_desks-E-BookLedger
ghosts-many_desks-E-BookLedger g a = record { book = a.book }
