-- What is asked over a link, and what comes over it: `L.Link` has the words of a type `L` of links.
use Rattle.std.specs.Prelude.{ℕ, ◌≡◌, Bool, List, Option}
use Rattle.std.specs.declared.time.Instant.{Instant}
use Rattle.ras_module.specs.declared.address.Address.{Address}
use Rattle.probing.specs.Replies.{reply_reading}
use Rattle.probing.specs.Requests.{discovery_octets}
use Rattle.probing.specs.Sockets.{microseconds_between}
use Rattle.probing.specs.Told.{is_found, with_told}
use Rattle.probing.specs.declared.ask.Probe.{Probe}
use Rattle.probing.specs.declared.link.Link as Link

-- A discovery was sent at this moment: only the gatekeeper that is asked is heard, and it is to
-- answer to the link's own address.
abbrev pub IsSent : {L : Type 0} → Link.Ghosts L → L → Probe → Option Instant → Type 0
IsSent tells link probe start = tells.hears link probe.target probe.timeout
    × ((own : Address) × tells.has_own link own × tells.has_sent link (discovery_octets own) start)

-- A discovery was sent, and octets came. Behind what a text told before it tells how these octets
-- read, with the time from the one to the other, and it is said whether they confirm.
abbrev pub IsAskedOver : {L : Type 0} → Link.Ghosts L → L → Probe → List ℕ → List ℕ → Bool → Type 0
IsAskedOver tells link probe old new found =
    (octets : List ℕ) × (start : Option Instant) × (now : Option Instant)
    × IsSent tells link probe start × tells.has_come link octets now
    × (new ≡ with_told old (reply_reading octets) (microseconds_between start now))
    × (found ≡ is_found (reply_reading octets))
