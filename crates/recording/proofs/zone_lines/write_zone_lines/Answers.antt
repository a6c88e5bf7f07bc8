use Rattle.std.proofs.Common.{◌≡◌, ◌++◌, ◌∙◌, ℕ, List, Option, ap, codes, map, subst}
use Rattle.std.proofs.KnownBytes.{Appends-trans}
use Rattle.std.specs.Prelude.{OnOk}
use Rattle.std.specs.Io.KnownBytes.{Appends}
use Rattle.std.specs.List.{zip}
use Rattle.zone_config.specs.declared.config.ConfigParts.{ConfigParts}
use Rattle.zone_config.specs.declared.network.Network.{Network}
use Rattle.zone_config.specs.Keys.{all_keys}
use Rattle.script.proofs.KnownBytes.{appends_then_on_ok}
use Rattle.recording.specs.Zones.{pool_line_text, setting_text, with_ends, zone_lines, zone_text}
use Rattle.recording.proofs.LinesWritten.{all_lines}
use Rattle.recording.proofs.zone_lines.write_zone_lines.Goals as goal

pub returns : goal.returns
returns g c =
    let zone = c.args.zone.now in
    let parts = c.parts-parts.result.now in
    let pools = c.pools.result.now in
    let networks = c.as_slice.result.now in
    let start = g.W.Write.contents c.args.out.now in
    let one = g.W.Write.contents c.write_zone_line.new.out in
    let two = g.W.Write.contents c.write_settings.new.out in
    let end = g.W.Write.contents c.write_pools.new.out in
    let is : parts ≡ zone.config = c.parts-parts.ensures.same ∙ c.config.ensures in
    let served : networks ≡ zone.config.networks =
    c.as_slice.ensures ∙ ap (λ (p : ConfigParts). p.networks) is in
    let same : ((zone_text parts ++ codes "\n") ++ with_ends (map (setting_text parts) all_keys))
    ++ with_ends (map pool_line_text (zip pools networks)) ≡ zone_lines zone =
    (λ i. ((zone_text (is i) ++ codes "\n") ++ with_ends (map (setting_text (is i)) all_keys))
    ++ with_ends (map pool_line_text (zip (c.pools.ensures i) (served i))))
    ∙ all_lines zone in
    subst (λ (t : List ℕ). OnOk c.write_pools.result (Appends start end t)) same
    (appends_then_on_ok c.write_pools.result start two end
    ((zone_text parts ++ codes "\n") ++ with_ends (map (setting_text parts) all_keys))
    (with_ends (map pool_line_text (zip pools networks)))
    (Appends-trans start one two (zone_text parts ++ codes "\n")
    (with_ends (map (setting_text parts) all_keys)) c.in_ok-write_zone_line.ensures
    c.in_ok-write_settings.ensures)
    c.write_pools.ensures)
