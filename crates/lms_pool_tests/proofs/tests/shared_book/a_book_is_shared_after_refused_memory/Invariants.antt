use Rattle.lms_pool_tests.proofs.tests.shared_book.a_book_is_shared_after_refused_memory.Given as goal

abbrev pub ghosts-two_desks-E-Ledger : goal.ghosts-two_desks-E-Ledger
ghosts-two_desks-E-Ledger g a = record { name = a.blanks.entries.name; parts = a.blanks.entries.parts }

abbrev pub ghosts-two_desks-G-Ledger : goal.ghosts-two_desks-G-Ledger
ghosts-two_desks-G-Ledger g a = record { name = a.blanks.received.name; parts = a.blanks.received.parts }

abbrev pub ghosts-two_desks-B-Ledger : goal.ghosts-two_desks-B-Ledger
ghosts-two_desks-B-Ledger g a = record { name = a.blanks.burnt.name; parts = a.blanks.burnt.parts }

abbrev pub ghosts-two_desks-E-BookLedger : goal.ghosts-two_desks-E-BookLedger
ghosts-two_desks-E-BookLedger g a = record { book = a.book }
