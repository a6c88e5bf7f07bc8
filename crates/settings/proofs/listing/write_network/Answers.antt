use Rattle.std.proofs.Common.{◌∷◌, ◌∙◌, [], ℕ, List, ap, sym, codes, slice_index, subst}
use Rattle.std.specs.Fmt.{decimal}
use Rattle.std.specs.Prelude.{OnOk}
use Rattle.std.specs.Io.KnownBytes.{Appends}
use Rattle.settings.specs.Listing.{network_line}
use Rattle.settings.proofs.Listed.{numbers_flat}
use Rattle.settings.proofs.listing.write_network.Goals as goal

pub returns-in-Some : goal.returns-in-Some
returns-in-Some g c =
    let network = c.in-Some.network in
    let start = g.W.Write.contents c.args.out.now in
    let end = g.W.Write.contents c.writeln.new.self in
    subst (λ (t : List ℕ). OnOk c.writeln.result (Appends start end t))
    (numbers_flat (codes "network = \"") 47 (decimal (slice_index network.ip 0)) (decimal (slice_index network.ip 1))
    (decimal (slice_index network.ip 2)) (decimal (slice_index network.ip 3)) (decimal network.bits) (34 ∷ 10 ∷ [])
    ∙ ap network_line (sym c.in-Some.is))
    c.writeln.ensures.bytes
