use Rattle.std.proofs.Common.{◌≡◌, ◌-◌, length}
use Rattle.explaining.specs.Places.{place_from, place_of}
use Rattle.explaining.proofs.place.place_of.Given as goal

abbrev pub invariant-loop-count : goal.invariant-loop-count
invariant-loop-count l =
    place_from l.octets l.number l.count (length l.octets - l.count)
    ≡ place_of l.octets l.fn.fault
