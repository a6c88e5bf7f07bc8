use Rattle.std.proofs.Common.{map, take}
use Rattle.std.specs.Io.KnownBytes.{Appends}
use Rattle.recording.specs.Zones.{setting_text, with_ends}
use Rattle.recording.proofs.zone_lines.write_settings.Given as goal

abbrev pub invariant-loop-key : goal.invariant-loop-key
invariant-loop-key g l = Appends (g.W.Write.contents l.initial.out) (g.W.Write.contents l.out)
    (with_ends (map (setting_text l.parts) (take l.key-index l.keys)))
