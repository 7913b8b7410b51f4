use Rattle.lms_batch_commands.proofs.batch.sign_by_book.Given as goal

abbrev pub ghosts-sign_shared-E-Ledger : goal.ghosts-sign_shared-E-Ledger
ghosts-sign_shared-E-Ledger g a = record { name = a.blanks.entries.name; parts = a.blanks.entries.parts }

abbrev pub ghosts-sign_shared-G-Ledger : goal.ghosts-sign_shared-G-Ledger
ghosts-sign_shared-G-Ledger g a = record { name = a.blanks.received.name; parts = a.blanks.received.parts }

abbrev pub ghosts-sign_shared-B-Ledger : goal.ghosts-sign_shared-B-Ledger
ghosts-sign_shared-B-Ledger g a = record { name = a.blanks.burnt.name; parts = a.blanks.burnt.parts }

abbrev pub ghosts-sign_shared-E-BookLedger : goal.ghosts-sign_shared-E-BookLedger
ghosts-sign_shared-E-BookLedger g a = record { book = a.book }
