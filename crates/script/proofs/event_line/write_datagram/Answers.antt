use Rattle.std.proofs.Common.{◌++◌, codes}
use Rattle.std.specs.Fmt.{decimal}
use Rattle.std.proofs.KnownBytes.{Appends-trans}
use Rattle.hex.specs.Hex.{encode_upper}
use Rattle.script.specs.Prints.{address_text}
use Rattle.script.proofs.KnownBytes.{appends_then_on_ok}
use Rattle.script.proofs.event_line.write_datagram.Goals as goal

pub returns : goal.returns
returns g c =
    let start = g.W.Write.contents c.args.out.now in
    let one = g.W.Write.contents c.write_source.new.out in
    let two = g.W.Write.contents c.write_hex.new.out in
    let end = g.W.Write.contents c.write_all.new.self in
    let front = codes "at " ++ decimal c.args.moment ++ codes " from "
    ++ address_text c.args.source.now ++ codes " " in
    let octets = encode_upper c.args.octets.now in
    appends_then_on_ok c.write_all.result start two end (front ++ octets) (codes "\n")
    (Appends-trans start one two front octets c.in_ok-write_source.ensures
    c.in_ok-write_hex.ensures)
    c.write_all.ensures.bytes
