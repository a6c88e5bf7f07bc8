use Rattle.std.proofs.Common.{◌++◌, codes}
use Rattle.std.proofs.KnownBytes.{Appends-trans}
use Rattle.script.specs.Prints.{address_text, identifier_text}
use Rattle.script.proofs.KnownBytes.{appends_then_on_ok}
use Rattle.recording.proofs.zone_lines.write_zone_text.Goals as goal

pub returns : goal.returns
returns g c =
    let parts = c.args.parts.now in
    let start = g.W.Write.contents c.args.out.now in
    let one = g.W.Write.contents c.write_all.new.self in
    let two = g.W.Write.contents c.write_name.new.out in
    let three = g.W.Write.contents c.write_all-2.new.self in
    let end = g.W.Write.contents c.write_address.new.out in
    let name = identifier_text parts.identifier in
    appends_then_on_ok c.write_address.result start three end (codes "zone " ++ name ++ codes " ")
    (address_text parts.address)
    (Appends-trans start two three (codes "zone " ++ name) (codes " ")
    (Appends-trans start one two (codes "zone ") name c.in_ok-write_all.ensures.bytes
    c.in_ok-write_name.ensures)
    c.in_ok-write_all-2.ensures.bytes)
    c.write_address.ensures
