use Rattle.std.proofs.Common.{◌≡◌}
use Rattle.std.specs.List.{find}
use Rattle.admission.specs.Calls.{has_leg}
use Rattle.admission.proofs.sums.call_in.Given as goal

abbrev pub invariant-loop-key : goal.invariant-loop-key
invariant-loop-key l = find (λ e. has_leg l.endpoint e.1) l.key-iterator
    ≡ find (λ e. has_leg l.endpoint e.1) l.calls.entries
