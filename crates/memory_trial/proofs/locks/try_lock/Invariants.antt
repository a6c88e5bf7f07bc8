use Rattle.memory_trial.proofs.locks.try_lock.Given as goal

-- each ledger is the blank's that is handed over, and the zone is locked as it is
abbrev pub ghosts-open_and_make-D-Ledger : goal.ghosts-open_and_make-D-Ledger
ghosts-open_and_make-D-Ledger g a =
    record { name = a.blanks.datagrams.name; parts = a.blanks.datagrams.parts }

abbrev pub ghosts-open_and_make-D-Hall : goal.ghosts-open_and_make-D-Hall
ghosts-open_and_make-D-Hall g a =
    record { all = a.blanks.datagrams.parts; opened = a.zone.state }

abbrev pub ghosts-open_and_make-T-Ledger : goal.ghosts-open_and_make-T-Ledger
ghosts-open_and_make-T-Ledger g a =
    record { name = a.blanks.turns.name; parts = a.blanks.turns.parts }

abbrev pub ghosts-open_and_make-U-Ledger : goal.ghosts-open_and_make-U-Ledger
ghosts-open_and_make-U-Ledger g a =
    record { name = a.blanks.lent.name; parts = a.blanks.lent.parts }

abbrev pub ghosts-open_and_make-V-Ledger : goal.ghosts-open_and_make-V-Ledger
ghosts-open_and_make-V-Ledger g a =
    record { name = a.blanks.changes.name; parts = a.blanks.changes.parts }
