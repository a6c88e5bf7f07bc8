use Rattle.std.proofs.Common.{◌++◌, codes}
use Rattle.std.proofs.KnownBytes.{Appends-trans}
use Rattle.settings.specs.Listing.{kind_lines, network_line}
use Rattle.settings.proofs.Listed.{appends_then_on_ok}
use Rattle.settings.proofs.listing.write_pool.Goals as goal

pub returns : goal.returns
returns g c =
    let start = g.W.Write.contents c.args.out.now in
    let one = g.W.Write.contents c.write_all.new.self in
    let two = g.W.Write.contents c.write_kind.new.out in
    let end = g.W.Write.contents c.write_network.new.out in
    let kind = kind_lines c.args.spec.now in
    appends_then_on_ok c.write_network.result start two end (codes "[[pool]]\n" ++ kind) (network_line c.args.network.now)
    (Appends-trans start one two (codes "[[pool]]\n") kind c.in_ok-write_all.ensures.bytes c.in_ok-write_kind.ensures)
    c.write_network.ensures
