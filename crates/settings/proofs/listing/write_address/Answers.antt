use Rattle.std.proofs.Common.{◌++◌, ◌∷◌, ◌∙◌, [], ℕ, List, codes, slice_index, subst, sym, append_assoc}
use Rattle.std.specs.Fmt.{decimal}
use Rattle.std.specs.Prelude.{OnOk}
use Rattle.std.specs.Io.KnownBytes.{Appends}
use Rattle.settings.proofs.Listed.{numbers_flat}
use Rattle.settings.proofs.listing.write_address.Goals as goal

pub returns : goal.returns
returns g c =
    let address = c.args.address.now in
    let path = c.args.path.now in
    let mark = codes " = \"" in
    let start = g.W.Write.contents c.args.out.now in
    let end = g.W.Write.contents c.writeln.new.self in
    let a = decimal (slice_index address.ip 0) in
    let b = decimal (slice_index address.ip 1) in
    let d = decimal (slice_index address.ip 2) in
    let e = decimal (slice_index address.ip 3) in
    let port = decimal address.port in
    let rest = a ++ 46 ∷ (b ++ 46 ∷ (d ++ 46 ∷ (e ++ 58 ∷ (port ++ 34 ∷ 10 ∷ [])))) in
    subst (λ (t : List ℕ). OnOk c.writeln.result (Appends start end t))
    (sym (append_assoc path mark rest) ∙ numbers_flat (path ++ mark) 58 a b d e port (34 ∷ 10 ∷ []))
    c.writeln.ensures.bytes
