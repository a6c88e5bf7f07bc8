use Rattle.server_tests.proofs.lock.locks.make.Given as goal

-- each ledger is the blank's that is handed over, and the zone is locked as it is
abbrev pub ghosts-open_and_do-D-Ledger : goal.ghosts-open_and_do-D-Ledger
ghosts-open_and_do-D-Ledger g a =
    record { name = a.blanks.datagrams.name; parts = a.blanks.datagrams.parts }

abbrev pub ghosts-open_and_do-D-Hall : goal.ghosts-open_and_do-D-Hall
ghosts-open_and_do-D-Hall g a =
    record { all = a.blanks.datagrams.parts; opened = a.zone.state }

abbrev pub ghosts-open_and_do-T-Ledger : goal.ghosts-open_and_do-T-Ledger
ghosts-open_and_do-T-Ledger g a =
    record { name = a.blanks.turns.name; parts = a.blanks.turns.parts }

abbrev pub ghosts-open_and_do-U-Ledger : goal.ghosts-open_and_do-U-Ledger
ghosts-open_and_do-U-Ledger g a =
    record { name = a.blanks.lent.name; parts = a.blanks.lent.parts }

abbrev pub ghosts-open_and_do-V-Ledger : goal.ghosts-open_and_do-V-Ledger
ghosts-open_and_do-V-Ledger g a =
    record { name = a.blanks.changes.name; parts = a.blanks.changes.parts }
