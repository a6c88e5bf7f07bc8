use Rattle.std.proofs.Common.{take}
use Rattle.std.specs.Io.KnownBytes.{Appends}
use Rattle.std.specs.List.{flat_map}
use Rattle.settings.specs.Listing.{character_text}
use Rattle.settings.proofs.listing.write_characters.Given as goal

abbrev pub invariant-loop-code : goal.invariant-loop-code
invariant-loop-code g l = Appends (g.W.Write.contents l.initial.out) (g.W.Write.contents l.out)
    (flat_map character_text (take l.code-index l.text))
