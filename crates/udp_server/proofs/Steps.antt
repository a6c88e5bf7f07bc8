-- What a step of a sound zone sends, and how a worker stands after it counted refused turns.
use Rattle.std.proofs.Common.{◌≡◌, ◌∙◌, ap}
use Rattle.std.specs.Prelude.{ℕ}
use Rattle.zone_events.specs.declared.change.Change.TheVariants as change
use Rattle.zone_events.specs.declared.event.Event.{Event}
use Rattle.zone_events.specs.declared.outcome.Outcome.{Outcome}
use Rattle.ras_machine.specs.State.{State}
use Rattle.ras_machine.specs.Steps.{HasFewOctets}
use Rattle.zone_lock.specs.Held.{IsStepUnderLock, entry_by}
use Rattle.zone_lock.specs.Seats.{Seated}
use Rattle.reply_queues.specs.declared.outlet.Outlet.{Outlet}
use Rattle.udp_server.specs.declared.worker.Counts.{Counts}
use Rattle.udp_server.specs.Working.{standing}

pub few_of : (opened : State) (place seat call : ℕ) (event : Event) (outcome : Outcome)
    → IsStepUnderLock opened place (entry_by seat call (change.Event event) outcome)
    → HasFewOctets outcome.output
few_of opened place seat call event outcome is = is.step.few

pub refusals_counted : (seat seat_then : Seated) (outlet : Outlet) (counts counts_then : Counts)
    (refused : ℕ) → counts_then.refused ≡ refused → counts_then.dropped ≡ counts.dropped
    → counts_then.faults ≡ counts.faults → standing seat_then outlet counts_then
    ≡ record (standing seat outlet counts) { seat = seat_then; refused = refused }
refusals_counted seat seat_then outlet counts counts_then refused is dropped faults =
    let old = standing seat outlet counts in
    ap (λ (n : ℕ). record (standing seat_then outlet counts_then) { refused = n }) is
    ∙ ap (λ (n : ℕ). record (standing seat_then outlet counts_then) {
      refused = refused;
      dropped = n;
    }) dropped
    ∙ ap (λ (n : ℕ). record old { seat = seat_then; refused = refused; faults = n }) faults
