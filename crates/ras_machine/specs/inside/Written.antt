-- Replies that are written before anything changes.
use Rattle.std.specs.Prelude.{◌≡◌, ◌≤◌, ℕ, List, Some, length}
use Rattle.std.specs.FinMap.{get}
use Rattle.ras_module.specs.declared.address.Address.{Address}
use Rattle.ras_module.specs.declared.reply.TheConstants.Reply as reply_octets
use Rattle.ras_writing.specs.Replies.{encoding_of}
use Rattle.registrations.specs.declared.registration.Registration.{Registration}
use Rattle.zone_tables.specs.declared.change.Change.{Change}
use Rattle.zone_tables.specs.Tables.{Tables}
use Rattle.ras_requests.specs.declared.plan.GrantedTime.{GrantedTime}
use Rattle.ras_requests.specs.Planned.{renewal_of}
use Rattle.ras_machine.specs.declared.served_request.Written as code

-- what is sent to this address are the octets of the reply that is kept
pub record IsWritten (to : Address) (written : code.Written) : Type 0 where
  pub sent : written.output ≡ record { to = to; bytes = encoding_of written.reply }
  pub few : length written.output.bytes ≤ reply_octets.MOST

-- the change and the reply are those of this endpoint's registration as it is kept alive
abbrev pub IsRenewal : Tables → GrantedTime → List ℕ → Change → code.Written → Type 0
IsRenewal z time id change written = (registration : Registration)
    → get z.live id ≡ Some registration
    → record { reply = written.reply; change = change } ≡ renewal_of z time registration
