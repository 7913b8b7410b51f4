use Rattle.lms_lines_tests.proofs.tests.signing.carry_out.Given as goal

abbrev pub ghosts-carried_out-E-Ledger : goal.ghosts-carried_out-E-Ledger
ghosts-carried_out-E-Ledger g a = record { name = a.blanks.entries.name; parts = a.blanks.entries.parts }

abbrev pub ghosts-carried_out-G-Ledger : goal.ghosts-carried_out-G-Ledger
ghosts-carried_out-G-Ledger g a = record { name = a.blanks.received.name; parts = a.blanks.received.parts }

abbrev pub ghosts-carried_out-B-Ledger : goal.ghosts-carried_out-B-Ledger
ghosts-carried_out-B-Ledger g a = record { name = a.blanks.burnt.name; parts = a.blanks.burnt.parts }

abbrev pub ghosts-carried_out-E-BookLedger : goal.ghosts-carried_out-E-BookLedger
ghosts-carried_out-E-BookLedger g a = record { book = a.book }
