-- What holds of the value of a result.
use Rattle.std.proofs.Common.{IfOk}
use Rattle.std.specs.Prelude.{Err, Ok, Result}

-- what follows from what holds of a value, if there is one, holds of it too
pub of_each : {T E : Type 0} (result : Result T E) (P Q : T → Type 0) → ((t : T) → P t → Q t)
    → IfOk result P → IfOk result Q
of_each (Ok t) P Q all is = all t is
of_each (Err e) P Q all is = is
