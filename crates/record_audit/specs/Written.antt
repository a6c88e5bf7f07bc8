-- The lines of events, without their ends, as they are written.
use Rattle.std.specs.Prelude.{ℕ, ◌≡◌, ◌<◌, ◌^◌, List, ◌++◌, codes, Some}
use Rattle.std.specs.Fmt.{decimal}
use Rattle.hex.specs.Hex.{IsBytes, encode_upper}
use Rattle.ras_module.specs.declared.address.Address.{Address}
use Rattle.ras_writing.specs.Properties.{IsAddress}
use Rattle.zone_events.specs.declared.event.Event.{Event}
use Rattle.zone_events.specs.declared.event.Event.TheVariants.{Datagram, Turn}
use Rattle.script.specs.declared.event.ScriptEvent.TheVariants as script
use Rattle.script.specs.declared.line.Line.TheVariants.{At}
use Rattle.script.specs.EventLines.{event_line}
use Rattle.script.specs.Lines.{line_of}
use Rattle.script.specs.Prints.{address_text}

abbrev pub datagram_text : Address → List ℕ → ℕ → List ℕ
datagram_text source bytes moment =
    codes "at " ++ decimal moment ++ codes " from " ++ address_text source ++ codes " "
    ++ encode_upper bytes

abbrev pub turn_text : ℕ → List ℕ
turn_text moment = codes "turn " ++ decimal moment

abbrev pub event_text : Event → List ℕ
event_text (Datagram source bytes moment) = datagram_text source bytes moment
event_text (Turn moment) = turn_text moment

-- what the types of an event keep: octets are below 256, and a moment is below 2^53
abbrev pub IsEvent : Event → Type 0
IsEvent (Datagram source bytes moment) = IsAddress source × IsBytes bytes × (moment < 2 ^ 53)
IsEvent (Turn moment) = moment < 2 ^ 53

-- its line is this text, and reading the text gives the event again
pub record IsEventReadBack (event : Event) : Type 0 where
  pub line : event_line (script.Event event) ≡ event_text event ++ codes "\n"
  pub back : line_of (event_text event) ≡ Some (At (script.Event event))
