use Rattle.std.proofs.Common.{◌++◌, ℕ, List, codes, subst}
use Rattle.std.proofs.KnownBytes.{Appends-trans}
use Rattle.std.specs.Io.KnownBytes.{Appends}
use Rattle.std.specs.List.{flat_map}
use Rattle.settings.specs.Listing.{character_text}
use Rattle.settings.proofs.Listed.{appends_then_on_ok}
use Rattle.settings.proofs.listing.write_identifier.Goals as goal

pub returns : goal.returns
returns g c =
    let id = c.args.identifier.now in
    let start = g.W.Write.contents c.args.out.now in
    let one = g.W.Write.contents c.write_all.new.self in
    let two = g.W.Write.contents c.write_characters.new.out in
    let end = g.W.Write.contents c.write_all-2.new.self in
    let front = codes "zone.identifier = \"" in
    let wrote = subst (λ (t : List ℕ). Appends one two (flat_map character_text t)) c.as_slice.ensures.items
    c.in_ok-write_characters.ensures in
    appends_then_on_ok c.write_all-2.result start two end (front ++ flat_map character_text id) (codes "\"\n")
    (Appends-trans start one two front (flat_map character_text id) c.in_ok-write_all.ensures.bytes wrote)
    c.write_all-2.ensures.bytes
