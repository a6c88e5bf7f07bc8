use Rattle.std.proofs.Common.{◌≡◌, ◌+◌, ◌-◌, ◌*◌, ◌^◌, drop, length}
use Rattle.registrations.specs.Numbers.{number_of}
use Rattle.registrations.proofs.number.digits_of.Given as goal

abbrev pub invariant-loop-k : goal.invariant-loop-k
invariant-loop-k l = (length l.digits ≡ 20)
    × (number_of (drop (20 - l.k) l.digits) + l.rest * 10 ^ l.k ≡ l.number)
