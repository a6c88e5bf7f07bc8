use Rattle.std.proofs.Common.{◌++◌, codes}
use Rattle.std.proofs.KnownBytes.{Appends-trans}
use Rattle.std.specs.List.{flat_map}
use Rattle.zone_config.specs.Keys.{all_keys}
use Rattle.settings.specs.Listing.{address_line, identifier_line, zone_number_line}
use Rattle.settings.proofs.Listed.{appends_then_on_ok}
use Rattle.settings.proofs.listing.write_zone.Goals as goal

pub returns : goal.returns
returns g c =
    let parts = c.args.parts.now in
    let start = g.W.Write.contents c.args.out.now in
    let one = g.W.Write.contents c.write_identifier.new.out in
    let two = g.W.Write.contents c.write_address.new.out in
    let end = g.W.Write.contents c.write_zone_numbers.new.out in
    let id = identifier_line parts.identifier in
    let address = address_line (codes "zone.address") parts.address in
    appends_then_on_ok c.write_zone_numbers.result start two end (id ++ address) (flat_map (zone_number_line parts) all_keys)
    (Appends-trans start one two id address c.in_ok-write_identifier.ensures c.in_ok-write_address.ensures)
    c.write_zone_numbers.ensures
