-- Events, changes and outcomes.
use Rattle.std.specs.Prelude.{ℕ, Option, None}
use Rattle.zone_events.specs.declared.change.Change.{Change}
use Rattle.zone_events.specs.declared.change.Change.TheVariants as change
use Rattle.zone_events.specs.declared.event.Event.{Event}
use Rattle.zone_events.specs.declared.event.Event.TheVariants as event
use Rattle.zone_events.specs.declared.outcome.Datagram.{Datagram}
use Rattle.zone_events.specs.declared.outcome.IgnoredCause.{IgnoredCause}
use Rattle.zone_events.specs.declared.outcome.IgnoredCause.TheVariants as cause
use Rattle.zone_events.specs.declared.outcome.Note.{Note}
use Rattle.zone_events.specs.declared.outcome.Outcome.{Outcome}

-- the moment at which it came
abbrev pub moment_in : Event → ℕ
moment_in (event.Datagram source bytes moment) = moment
moment_in (event.Turn moment) = moment

-- the moment of a change
abbrev pub moment_of_change : Change → ℕ
moment_of_change (change.Event what) = moment_in what
moment_of_change (change.PoolChange replacement) = replacement.moment

-- what is sent and what happened, in a step that chose nothing, except the item in a turn
abbrev pub noted_outcome : Note → Option Datagram → Outcome
noted_outcome what output = record {
  answer = None;
  output = output;
  note = what;
  dropped = None;
  given = None;
}

-- the numbers of the causes for which a datagram is ignored
abbrev pub cause_number : IgnoredCause → ℕ
cause_number cause.TooLong = 1
cause_number cause.Unreadable = 2
cause_number cause.NotServed = 3
cause_number cause.Busy = 4
cause_number cause.UnknownEndpoint = 5
