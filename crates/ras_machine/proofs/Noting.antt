-- Steps in which no request is served.
use Rattle.std.proofs.Common.{◌≡◌, ◌<◌, ◌≤◌, ◌+◌, ℕ, List, refl, sym, subst}
use Rattle.std.proofs.Common.{Some, None, arith}
use Rattle.std.specs.Prelude.{Option, IsTrue}
use Rattle.std.specs.Option.{IsSomeAnd}
use Rattle.std.proofs.lemmas.Bool.Decides.{nat_tests}
use Rattle.registrations.specs.declared.registration.Registration.{Registration}
use Rattle.zone_events.specs.declared.due_item.DueItem.{DueItem}
use Rattle.registrations.specs.declared.times.Times.{Times}
use Rattle.registrations.specs.Silence.{is_to_be_asked}
use Rattle.zone_events.specs.declared.outcome.Datagram.{Datagram}
use Rattle.zone_events.specs.declared.outcome.Note.TheVariants as note
use Rattle.zone_events.specs.declared.outcome.Outcome.{Outcome}
use Rattle.zone_events.specs.Events.{noted_outcome}
use Rattle.ras_machine.specs.State.{State}
use Rattle.zone_tables.specs.Tables.{Tables}
use Rattle.ras_machine.specs.Turns.{IsDueIn, effect}
use Rattle.ras_machine.specs.Machine.{Hearing, Doing}
use Rattle.zone_tables.specs.Changes.{heard}
use Rattle.ras_machine.specs.Courses.{Does}
use Rattle.zone_tables.specs.Leaving.{AreSameButLent}
use Rattle.ras_machine.specs.Soundness.{AreBornBefore}
use Rattle.ras_machine.specs.Steps.{HasFewOctets}
use Rattle.zone_tables.proofs.ButLent.{counts_same, same_after_end}
use Rattle.ras_machine.proofs.Dropping.{born_same}

-- An item is done: what is noted and what is left are as the machine has it. The machine is seen by
-- its parts, `old`, and by its value.
module _ (old value : State) (is : old ≡ value) (now : ℕ) (item : DueItem)
    (due : IsDueIn value now item) where
  pub does_item : (output : Option Datagram) (outcome : Outcome)
      → outcome ≡ noted_outcome (note.Done item) output
      → (new : State) → (effect old now item).output ≡ output
      → (effect old now item).state ≡ new
      → AreSameButLent old.tables.pools new.tables.pools
      → (AreBornBefore old.steps old.kept → AreBornBefore (old.steps + 1) new.kept)
      → HasFewOctets output → Does value now (Doing item) outcome new
  does_item output outcome noted new sent leaves pools births few =
      subst (λ (m : State). Does m now (Doing item) outcome new) is
      (subst (λ (o : Outcome). Does old now (Doing item) o new) (sym noted) (record {
        allowed = subst (λ (m : State). IsDueIn m now item) (sym is) due;
        makes = λ j. Some (noted_outcome (note.Done item) (sent j), leaves j);
        pools = pools;
        counts = counts_same old.tables.pools new.tables.pools pools;
        births = births;
        few = few;
      }))

-- an endpoint gave a sign of life
pub does_hear : (old : State) (now : ℕ) (id : List ℕ) (tables : Tables)
    → tables ≡ heard old.tables now (Some id)
    → Does old now (Hearing id) (noted_outcome note.Served None) (record old { tables = tables })
does_hear old now id tables is =
    subst (λ (z : Tables). Does old now (Hearing id) (noted_outcome note.Served None)
    (record old { tables = z })) (sym is) (record {
      allowed = tt;
      makes = refl;
      pools = same_after_end old.tables.pools None;
      counts = counts_same old.tables.pools old.tables.pools
          (same_after_end old.tables.pools None);
      births = λ before. born_same old.kept old.steps before;
      few = tt;
    })

-- who is asked was asked fewer than 16 times so far
tries_few : (times : Times) (now : ℕ) (r : Registration) → IsTrue (is_to_be_asked times now r)
    → times.asks ≤ 16 → r.tries < 16
tries_few times now r is few = grind (arith, nat_tests)

pub tries_few_in : (times : Times) (now : ℕ) (w : Option Registration)
    → IsSomeAnd w (λ r. IsTrue (is_to_be_asked times now r)) → times.asks ≤ 16
    → IsSomeAnd w (λ r. r.tries < 16)
tries_few_in times now None is few = is
tries_few_in times now (Some r) is few = tries_few times now r is few
