use Rattle.std.proofs.Common.{rules, ◌<◌, ℕ, List, length, map, subst, sym, take}
use Rattle.std.proofs.KnownBytes.{Appends-trans}
use Rattle.std.specs.Io.KnownBytes.{Appends}
use Rattle.recording.specs.Zones.{setting_text, with_ends}
use Rattle.recording.proofs.LinesWritten.{line_more}
use Rattle.recording.proofs.zone_lines.write_settings.Goals as goal

pub loop-key-preserved : goal.loop-key-preserved
loop-key-preserved g c =
    let i = c.loop-key.key-index in
    let keys = c.args.keys.now in
    let parts = c.args.parts.now in
    let below : i < length keys = search rules in
    let start = g.W.Write.contents c.args.out.now in
    let before = g.W.Write.contents c.loop-key.out in
    let after = g.W.Write.contents c.write_setting_line.new.out in
    subst (λ (t : List ℕ). Appends start after t) (sym (line_more (setting_text parts) keys i _ below))
    (Appends-trans start before after (with_ends (map (setting_text parts) (take i keys))) _
    c.loop-key.invariant c.in_ok-write_setting_line.ensures)
