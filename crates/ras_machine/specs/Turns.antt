-- What is due, and what it comes to (H.323, 8.4.2, status; H.225.0, timeToLive, InfoRequest).
use Rattle.std.specs.Prelude.{ℕ, ◌+◌, ◌==◌, List, Option, None, if◌then◌else◌}
use Rattle.std.specs.Option.{option_map}
use Rattle.std.specs.FinMap.{get}
use Rattle.keyed.specs.Maps.{update}
use Rattle.ras_module.specs.declared.reply.Reply.TheVariants.{Irq}
use Rattle.ras_writing.specs.Replies.{encoding_of}
use Rattle.registrations.specs.declared.registration.Registration.{Registration}
use Rattle.registrations.specs.Registry.{after_ask}
use Rattle.kept_replies.specs.Kept.{without_birth}
use Rattle.zone_events.specs.declared.due_item.DueItem.{DueItem}
use Rattle.zone_events.specs.declared.due_item.DueItem.TheVariants.{RegistrationOver, Interrogate}
use Rattle.zone_events.specs.declared.due_item.DueItem.TheVariants.{Silent, Retry}
use Rattle.zone_events.specs.declared.due_item.DueItem.TheVariants.{KeptOver, PoolTurn}
use Rattle.expiry.specs.Due.{IsDue, IsNothingDue}
use Rattle.zone_events.specs.declared.outcome.Datagram.{Datagram}
use Rattle.zone_tables.specs.Silence.{times_of}
use Rattle.zone_tables.specs.Tables.{with_live}
use Rattle.ras_machine.specs.State.{State}
use Rattle.zone_tables.specs.Disengaging.{without_endpoint, without_silent}

-- the item is due in this state, or nothing is
abbrev pub IsDueIn : State → ℕ → DueItem → Type 0
IsDueIn s now item =
    IsDue now s.next_pool_turn (times_of s.tables.config) s.tables.live s.tables.calls s.kept item

abbrev pub IsNothingDueIn : State → ℕ → Type 0
IsNothingDueIn s now =
    IsNothingDue now s.next_pool_turn (times_of s.tables.config) s.tables.live s.tables.calls s.kept

-- what is done of itself: what is sent, and the state then
pub record Effect : Type 0 where
  pub output : Option Datagram
  pub state : State

-- nothing is sent
abbrev pub quietly : State → Effect
quietly s = record { output = None; state = s }

-- The requestSeqNum of the interrogation after one with this number. It is from 1 to 65535
-- (H.225.0, RequestSeqNum).
abbrev pub number_after : ℕ → ℕ
number_after number = if number == 65535 then 1 else number + 1

-- an endpoint is asked for a sign of life at its RAS address
abbrev pub inquiry : ℕ → Registration → Datagram
inquiry number r = record { to = r.ras; bytes = encoding_of (Irq number) }

abbrev pub interrogation : State → ℕ → List ℕ → Effect
interrogation s now endpoint = record {
  output = option_map (inquiry s.interrogation_number) (get s.tables.live endpoint);
  state = record s {
    tables = with_live s.tables (update s.tables.live endpoint (after_ask now));
    interrogation_number = number_after s.interrogation_number;
  };
}

-- What each item comes to, but for a request that is served again. (In a turn of the pools each
-- pool makes one too. It changes no figure of a pool, so it shows in their tallies and in no state:
-- `tallies_after` of ras_core says it.)
abbrev pub effect : State → ℕ → DueItem → Effect
effect s now (RegistrationOver id) =
    quietly (record s { tables = without_endpoint s.tables id })
effect s now (Interrogate id) = interrogation s now id
effect s now (Silent id) = quietly (record s { tables = without_silent s.tables id })
effect s now (Retry born) = quietly s
effect s now (KeptOver born) = quietly (record s { kept = without_birth s.kept born })
effect s now PoolTurn = quietly (record s { next_pool_turn = now + s.tables.config.pool_turn })
