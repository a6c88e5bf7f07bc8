-- What no search finds is not due.
use Rattle.std.proofs.Common.{◌≡◌, ℕ, ◌<◌, List, Some, false, arith}
use Rattle.std.specs.FinMap as fin
use Rattle.std.proofs.lemmas.Bool.Decides.{nat_tests}
use Rattle.admission.specs.Calls.{OpenCalls}
use Rattle.kept_replies.specs.Kept.{KeptTable, IsConsistent, NonePasses, is_over, is_retry}
use Rattle.kept_replies.proofs.Births.{none_passes}
use Rattle.registrations.specs.Registry.{Live}
use Rattle.registrations.specs.declared.registration.Registration.{Registration}
use Rattle.zone_tables.specs.EndpointsDue.{IsNoEndpointDue}
use Rattle.expiry.specs.Due.{IsDue, IsNothingDue, is_deadline_past}
use Rattle.registrations.specs.declared.times.Times.{Times}
use Rattle.zone_events.specs.declared.due_item.DueItem.{DueItem}
use Rattle.zone_events.specs.declared.due_item.DueItem.TheVariants.{RegistrationOver, Interrogate}
use Rattle.zone_events.specs.declared.due_item.DueItem.TheVariants.{Silent, Retry}
use Rattle.zone_events.specs.declared.due_item.DueItem.TheVariants.{KeptOver, PoolTurn}
use Rattle.expiry.proofs.Endpoints.{none_live}

later : (now : ℕ) (r : Registration) → now < r.deadline → is_deadline_past now r ≡ false
later now r h = grind (arith, nat_tests)

pub nothing_due : (now next : ℕ) (times : Times) (live : Live) (calls : OpenCalls) (t : KeptTable)
    → IsConsistent t
    → ((id : List ℕ) (r : Registration) → fin.get live id ≡ Some r → now < r.deadline)
    → IsNoEndpointDue now times live calls → NonePasses (is_retry now) t.kept
    → NonePasses (is_over now) t.kept → now < next
    → IsNothingDue now next times live calls t.kept
nothing_due now next times live calls t sound deadlines endpoints retries overs turn = none where
  none : (item : DueItem) → IsDue now next times live calls t.kept item → ⊥
  none (RegistrationOver id) h =
      none_live (is_deadline_past now) live id (λ r there. later now r (deadlines id r there)) h
  none (Interrogate id) h = endpoints (Interrogate id) h
  none (Silent id) h = endpoints (Silent id) h
  none (Retry born) h = none_passes t sound (is_retry now) born retries h
  none (KeptOver born) h = none_passes t sound (is_over now) born overs h
  none PoolTurn h = omega (arith, turn, h)
