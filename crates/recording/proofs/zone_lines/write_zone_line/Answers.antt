use Rattle.std.proofs.Common.{codes}
use Rattle.script.proofs.KnownBytes.{appends_then_on_ok}
use Rattle.recording.specs.Zones.{zone_text}
use Rattle.recording.proofs.zone_lines.write_zone_line.Goals as goal

pub returns : goal.returns
returns g c =
    appends_then_on_ok c.write_all.result (g.W.Write.contents c.args.out.now)
    (g.W.Write.contents c.write_zone_text.new.out) (g.W.Write.contents c.write_all.new.self)
    (zone_text c.args.parts.now) (codes "\n") c.in_ok-write_zone_text.ensures
    c.write_all.ensures.bytes
