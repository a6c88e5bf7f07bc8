use Rattle.std.proofs.Common.{◌≡◌, ℕ, ◌<◌, Some, None}
use Rattle.std.specs.Prelude.{slice_get}
use Rattle.registrations.specs.declared.registration.Registration.{Registration}
use Rattle.expiry.specs.inside.Searched.{item_of}
use Rattle.expiry.proofs.due_search.endpoint_due.Given as goal

abbrev pub invariant-loop-i : goal.invariant-loop-i
invariant-loop-i l =
    (j : ℕ) (r : Registration) → j < l.i → slice_get l.registrations.order j ≡ Some r
    → item_of l.now l.times l.calls.calls r ≡ None
