use Rattle.lms_pool_tests.proofs.tests.shared_book.desks_count_what_they_got.Given as goal

abbrev pub ghosts-three_desks-E-Ledger : goal.ghosts-three_desks-E-Ledger
ghosts-three_desks-E-Ledger g a = record { name = a.blanks.entries.name; parts = a.blanks.entries.parts }

abbrev pub ghosts-three_desks-G-Ledger : goal.ghosts-three_desks-G-Ledger
ghosts-three_desks-G-Ledger g a = record { name = a.blanks.received.name; parts = a.blanks.received.parts }

abbrev pub ghosts-three_desks-B-Ledger : goal.ghosts-three_desks-B-Ledger
ghosts-three_desks-B-Ledger g a = record { name = a.blanks.burnt.name; parts = a.blanks.burnt.parts }

abbrev pub ghosts-three_desks-E-BookLedger : goal.ghosts-three_desks-E-BookLedger
ghosts-three_desks-E-BookLedger g a = record { book = a.book }
