-- What holds of every state.
use Rattle.std.specs.Prelude.{◌≡◌, ◌<◌, ◌≤◌, ◌+◌, ◌^◌, ℕ, Some, All}
use Rattle.std.specs.FinMap.{get, len}
use Rattle.ras_module.specs.declared.reply.Reply.TheVariants.{Rip}
use Rattle.ras_module.specs.declared.request.Request.{Request}
use Rattle.ras_module.specs.declared.request.Request.TheVariants.{Arq, Brq}
use Rattle.kept_replies.specs.declared.key.KeptKey.{KeptKey}
use Rattle.kept_replies.specs.declared.entry.KeptEntry.{KeptEntry}
use Rattle.kept_replies.specs.declared.entry.KeptState.{KeptState}
use Rattle.kept_replies.specs.declared.entry.KeptState.TheVariants.{Done, Pending}
use Rattle.kept_replies.specs.Kept.{KeptReplies, AreEntries, AreBornApart}
use Rattle.ras_requests.specs.Requests.{seq_of}
use Rattle.ras_machine.specs.State.{State}
use Rattle.ras_machine.specs.Machine.{most_steps}
use Rattle.zone_tables.specs.Soundness.{HasCounts, SoundTables}

-- each entry was born before this number of steps was made
abbrev pub AreBornBefore : ℕ → KeptReplies → Type 0
AreBornBefore steps kept =
    (key : KeptKey) (entry : KeptEntry) → get kept key ≡ Some entry → entry.born < steps

-- a request for which a pool may be asked: an AdmissionRequest or a BandwidthRequest
abbrev pub MayRequestUnits : Request → Type 0
MayRequestUnits (Arq q) = Unit {0}
MayRequestUnits (Brq q) = Unit {0}
MayRequestUnits other = ⊥

-- if it waits, its request is such a one, and was told by its own number that it is in progress,
-- with this delay
abbrev pub WaitsInProgress : ℕ → KeptState → Type 0
WaitsInProgress delay (Done reply until) = Unit {0}
WaitsInProgress delay (Pending request reply retry left) =
    MayRequestUnits request × (reply ≡ Rip (seq_of request) delay)

-- each entry that waits does so
abbrev pub AllWaitInProgress : ℕ → KeptReplies → Type 0
AllWaitInProgress delay kept =
    (key : KeptKey) (entry : KeptEntry) → get kept key ≡ Some entry
    → WaitsInProgress delay entry.state

-- what holds of every state
pub record Sound (s : State) : Type 0 where
  pub tables : SoundTables s.tables
  pub counts : All (HasCounts (2 ^ 62 + s.steps)) s.tables.pools
  pub few_kept : len s.kept ≤ s.tables.config.kept
  pub entries : AreEntries s.kept
  pub births : AreBornApart s.kept
  pub born : AreBornBefore s.steps s.kept
  pub waiting : AllWaitInProgress s.tables.config.delay s.kept
  pub clock : s.clock < 2 ^ 53
  pub least_number : 1 ≤ s.interrogation_number
  pub most_number : s.interrogation_number ≤ 65535
  pub steps : s.steps ≤ most_steps
