-- Each state of a run that is recorded is sound, with registrations that can be told; so an audit
-- reads from each reply the identifier that was handed out.
use Rattle.std.proofs.Common.{◌≡◌, ◌&&◌, ◌==◌, ◌<◌, ◌^◌, ℕ, Bool, true, false, length, map}
use Rattle.std.proofs.Common.{arith, ◌∙◌, sym}
use Rattle.std.specs.Prelude.{is_none}
use Rattle.std.proofs.lemmas.Bool.Decides.{nat_tests}
use Rattle.std.proofs.lemmas.List.{length-map}
use Rattle.pools.specs.Accounts.{pool_fault}
use Rattle.pools.specs.Specs.{account_of}
use Rattle.zone_events.specs.declared.change.Change.TheVariants as change
use Rattle.zone_events.specs.declared.event.Event.{Event}
use Rattle.zone_events.specs.declared.event.Event.TheVariants.{Datagram, Turn}
use Rattle.zone_events.specs.declared.outcome.Outcome.{Outcome}
use Rattle.zone_events.specs.Events.{moment_in}
use Rattle.zone_tables.specs.Pools.{figures_of}
use Rattle.ras_machine.specs.Soundness.{Sound}
use Rattle.ras_machine.specs.State.{State}
use Rattle.ras_machine.specs.Steps.{Step}
use Rattle.sound_steps.proofs.Steps.{change_is_sound}
use Rattle.record_audit.specs.Records.{handed_out}
use Rattle.record_audit.specs.Written.{IsEvent}
use Rattle.recording.specs.Zones.{ZoneParts}
use Rattle.record_laws.specs.WholeRecords.{AreTold, IsToldZone, opened}
use Rattle.record_laws.proofs.OpenedSound.{opening_is_sound}
use Rattle.record_laws.proofs.ToldSteps.{step_is_told}
use Rattle.record_laws.proofs.ToldTables.{HasTellable, tables_opening}

pub record IsReached (s : State) : Type 0 where
  pub sound : Sound s
  pub tellable : HasTellable s.tables

few_moments : (event : Event) → IsEvent event → moment_in event < 2 ^ 53
few_moments (Datagram source bytes moment) is = is.2
few_moments (Turn moment) is = is

module _ (s : State) (event : Event) (outcome : Outcome) (after : State)
    (told : AreTold s event outcome) (reached : IsReached s)
    (step : Step s event outcome after) where
  pub given_is_told : handed_out s outcome.note outcome.output ≡ outcome.given
  given_is_told =
      (step_is_told s event outcome after reached.sound reached.tellable told.characters step).told

  pub next_reached : IsReached after
  next_reached = record {
    sound = change_is_sound s (change.Event event) outcome after
        (few_moments event told.event_is) reached.sound step;
    tellable = (step_is_told s event outcome after reached.sound reached.tellable told.characters
        step).tables_are;
  }

-- pools that make a set are as many as the networks
second : (a : Bool) (m n : ℕ) → (a && m == n) ≡ true → m ≡ n
second true m n h = grind (arith, nat_tests, h)
second false m n h = absurd (cc h)

pub opening_reached : (zone : ZoneParts) → IsToldZone zone → IsReached (opened zone)
opening_reached zone told =
    let config = zone.config in
    let accounts = map account_of zone.pools in
    let as_many : length zone.pools ≡ length config.networks =
    sym (length-map zone.pools account_of)
    ∙ second (is_none (pool_fault accounts)) (length accounts) (length config.networks) told.pools
    in record {
      sound = opening_is_sound config told.zone_is.config zone.pools as_many;
      tellable = tables_opening config (figures_of accounts) told.zone_is.name;
    }
