use Rattle.std.specs.List.{flat_map}
use Rattle.settings.specs.Listing.{serve_number_line, status_line}
use Rattle.settings.specs.ServeKeys.{all_serve_keys}
use Rattle.settings.proofs.Listed.{appends_then_on_ok}
use Rattle.settings.proofs.listing.write_serve.Goals as goal

pub returns : goal.returns
returns g c =
    let settings = c.args.settings.now in
    let start = g.W.Write.contents c.args.out.now in
    let one = g.W.Write.contents c.write_serve_numbers.new.out in
    let end = g.W.Write.contents c.write_status.new.out in
    appends_then_on_ok c.write_status.result start one end (flat_map (serve_number_line settings) all_serve_keys)
    (status_line settings.status) c.in_ok-write_serve_numbers.ensures c.write_status.ensures
