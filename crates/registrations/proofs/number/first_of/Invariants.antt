use Rattle.std.proofs.Common.{◌≡◌, ◌≤◌, ◌-◌, drop}
use Rattle.registrations.specs.Numbers.{number_of}
use Rattle.registrations.proofs.number.first_of.Given as goal

abbrev pub invariant-loop-start : goal.invariant-loop-start
invariant-loop-start l = (l.start ≤ 16) × (number_of (drop l.start l.digits) ≡ number_of l.digits)

abbrev pub decreases-loop-start : goal.decreases-loop-start
decreases-loop-start l = 16 - l.start
