-- How fast connections are accepted: in rounds, each of at most `MOST_ACCEPTED`.
use Rattle.std.specs.Prelude.{◌≡◌, ◌+◌, Bool, Option, Some, None, nat_le, if◌then◌else◌}
use Rattle.std.specs.declared.time.Instant.{Instant}
use Rattle.status_server.specs.declared.pace.Pace.{Pace}
use Rattle.status_server.specs.declared.pace.TheConstants.{MOST_ACCEPTED}

-- a round that begins at this moment, with none accepted yet
abbrev pub round_from : Instant → Pace
round_from moment = record { begin = moment; accepted = 0 }

-- whether no more connections are to be accepted in a round
abbrev pub is_full : Pace → Bool
is_full pace = nat_le MOST_ACCEPTED pace.accepted

-- with one more connection, accepted at this moment: it begins the next round if this one is full
abbrev pub with_accepted : Pace → Instant → Pace
with_accepted pace moment =
    if is_full pace then record { begin = moment; accepted = 1 }
    else record pace { accepted = pace.accepted + 1 }

-- the pace after a look for a connection: one that came is counted, and else the pace stays
abbrev pub IsPaceAfter : {A : Type 0} → Option A → Pace → Pace → Type 0
IsPaceAfter (Some connection) old new = (moment : Instant) × (new ≡ with_accepted old moment)
IsPaceAfter None old new = new ≡ old
