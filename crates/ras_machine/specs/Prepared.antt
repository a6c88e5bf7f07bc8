-- Datagrams as they are read, before anything of the zone is needed.
use Rattle.std.specs.Prelude.{ℕ, ◌≡◌, nat_lt, List, length, Option, None, Some, Result, Ok, Err}
use Rattle.std.specs.Prelude.{if◌then◌else◌}
use Rattle.ras_module.specs.declared.request.Request.{Request}
use Rattle.ras_module.specs.declared.request.TheConstants.Request as request_octets
use Rattle.ras_reading.specs.Messages.{message_reading}
use Rattle.ras_grammar.specs.declared.fault.ReadFault.{ReadFault}
use Rattle.zone_events.specs.declared.event.Event.{Event}
use Rattle.zone_events.specs.declared.event.Event.TheVariants as event
use Rattle.ras_machine.specs.declared.prepared.Arrival.{Arrival}
use Rattle.ras_machine.specs.declared.prepared.Arrival.TheVariants as arrival
use Rattle.ras_machine.specs.declared.prepared.Message.{Message}
use Rattle.ras_machine.specs.declared.prepared.Message.TheVariants as message

-- what octets are, by how they are read
abbrev pub message_by : Result (Option Request) ReadFault → Message
message_by (Err fault) = message.Unreadable
message_by (Ok None) = message.NotServed
message_by (Ok (Some request)) = message.Request request

-- what the octets of a datagram are; if they are more than a request has at most, they aren't read
abbrev pub message_in : List ℕ → Option Message
message_in bytes =
    if nat_lt request_octets.MOST (length bytes)
    then None
    else Some (message_by (message_reading bytes))

-- the event that arrived at a moment
abbrev pub event_at : ℕ → Arrival → Event
event_at moment (arrival.Datagram key message) = event.Datagram key.source key.bytes moment
event_at moment (arrival.TooLong source bytes) = event.Datagram source bytes moment
event_at moment arrival.Turn = event.Turn moment

-- its datagram was read, or is too long to be read
abbrev pub IsRead : Arrival → Type 0
IsRead (arrival.Datagram key message) = message_in key.bytes ≡ Some message
IsRead (arrival.TooLong source bytes) = message_in bytes ≡ None
IsRead arrival.Turn = Unit {0}
