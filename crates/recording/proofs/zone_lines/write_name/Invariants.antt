use Rattle.std.proofs.Common.{take}
use Rattle.std.specs.Io.KnownBytes.{Appends}
use Rattle.script.specs.Prints.{identifier_text}
use Rattle.recording.proofs.zone_lines.write_name.Given as goal

abbrev pub invariant-loop-code : goal.invariant-loop-code
invariant-loop-code g l = Appends (g.W.Write.contents l.initial.out) (g.W.Write.contents l.out)
    (identifier_text (take l.code-index l.code-items))
