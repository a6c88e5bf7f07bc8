use Rattle.udp_server.proofs.server.serve_zone_watched.Given as goal

-- each ledger is the blank's that is handed over, and the zone is locked as it is
abbrev pub ghosts-open_and_serve-D-Ledger : goal.ghosts-open_and_serve-D-Ledger
ghosts-open_and_serve-D-Ledger g a =
    record { name = a.blanks.datagrams.name; parts = a.blanks.datagrams.parts }

abbrev pub ghosts-open_and_serve-D-Hall : goal.ghosts-open_and_serve-D-Hall
ghosts-open_and_serve-D-Hall g a =
    record { all = a.blanks.datagrams.parts; opened = a.zone.state }

abbrev pub ghosts-open_and_serve-T-Ledger : goal.ghosts-open_and_serve-T-Ledger
ghosts-open_and_serve-T-Ledger g a =
    record { name = a.blanks.turns.name; parts = a.blanks.turns.parts }

abbrev pub ghosts-open_and_serve-U-Ledger : goal.ghosts-open_and_serve-U-Ledger
ghosts-open_and_serve-U-Ledger g a =
    record { name = a.blanks.lent.name; parts = a.blanks.lent.parts }

abbrev pub ghosts-open_and_serve-V-Ledger : goal.ghosts-open_and_serve-V-Ledger
ghosts-open_and_serve-V-Ledger g a =
    record { name = a.blanks.changes.name; parts = a.blanks.changes.parts }
