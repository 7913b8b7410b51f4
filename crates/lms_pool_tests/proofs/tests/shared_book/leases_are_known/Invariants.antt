use Rattle.lms_pool_tests.proofs.tests.shared_book.leases_are_known.Given as goal

abbrev pub ghosts-four_threads-E-Ledger : goal.ghosts-four_threads-E-Ledger
ghosts-four_threads-E-Ledger g a = record { name = a.blanks.entries.name; parts = a.blanks.entries.parts }

abbrev pub ghosts-four_threads-G-Ledger : goal.ghosts-four_threads-G-Ledger
ghosts-four_threads-G-Ledger g a = record { name = a.blanks.received.name; parts = a.blanks.received.parts }

abbrev pub ghosts-four_threads-B-Ledger : goal.ghosts-four_threads-B-Ledger
ghosts-four_threads-B-Ledger g a = record { name = a.blanks.burnt.name; parts = a.blanks.burnt.parts }

abbrev pub ghosts-four_threads-E-BookLedger : goal.ghosts-four_threads-E-BookLedger
ghosts-four_threads-E-BookLedger g a = record { book = a.book }
