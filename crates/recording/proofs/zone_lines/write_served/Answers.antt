use Rattle.std.proofs.Common.{◌≡◌, List, ℕ, Some, ap, sym, subst, codes}
use Rattle.std.specs.Prelude.{OnOk}
use Rattle.std.specs.Io.KnownBytes.{Appends}
use Rattle.script.proofs.KnownBytes.{appends_then_on_ok}
use Rattle.recording.specs.Zones.{network_text, served_text}
use Rattle.recording.proofs.zone_lines.write_served.Goals as goal

pub returns-in_ok-write_all-in-Some : goal.returns-in_ok-write_all-in-Some
returns-in_ok-write_all-in-Some g c =
    let start = g.W.Write.contents c.args.out.now in
    let mid = g.W.Write.contents c.write_all.new.self in
    let end = g.W.Write.contents c.write_network.new.out in
    let is : served_text (Some c.in-Some.network) ≡ served_text c.args.network.now =
    ap served_text (sym c.in-Some.is) in
    subst (λ (t : List ℕ). OnOk c.write_network.result (Appends start end t)) is
    (appends_then_on_ok c.write_network.result start mid end (codes " for ")
    (network_text c.in-Some.network) c.in_ok-write_all-in-Some.ensures.bytes
    c.write_network.ensures)
