use Rattle.std.proofs.Common.{take}
use Rattle.std.specs.Io.KnownBytes.{Appends}
use Rattle.std.specs.List.{flat_map}
use Rattle.settings.specs.Listing.{zone_number_line}
use Rattle.settings.proofs.listing.write_zone_numbers.Given as goal

abbrev pub invariant-loop-key : goal.invariant-loop-key
invariant-loop-key g l = Appends (g.W.Write.contents l.initial.out) (g.W.Write.contents l.out)
    (flat_map (zone_number_line l.parts) (take l.key-index l.keys))
