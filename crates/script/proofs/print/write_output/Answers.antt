use Rattle.std.proofs.Common.{◌≡◌, ◌++◌, List, ℕ, ap, sym, subst, codes, Some}
use Rattle.std.specs.Prelude.{OnOk}
use Rattle.std.specs.Io.KnownBytes.{Appends}
use Rattle.hex.specs.Hex.{encode_upper}
use Rattle.script.specs.Prints.{address_text, output_text}
use Rattle.script.proofs.KnownBytes.{appends_then_on_ok}
use Rattle.script.proofs.print.write_output.Goals as goal

pub returns-in_ok-write_target-in-Some : goal.returns-in_ok-write_target-in-Some
returns-in_ok-write_target-in-Some g c =
    let start = g.W.Write.contents c.args.out.now in
    let mid = g.W.Write.contents c.write_target.new.out in
    let end = g.W.Write.contents c.write_hex.new.out in
    let to = codes " > " ++ address_text c.in-Some.datagram.to ++ codes " " in
    let octets = encode_upper c.in-Some.datagram.bytes in
    let is : output_text (Some c.in-Some.datagram) ≡ output_text c.args.output.now =
    ap output_text (sym c.in-Some.is) in
    let hex : OnOk c.write_hex.result (Appends mid end octets) =
    subst (λ (bytes : List ℕ). OnOk c.write_hex.result (Appends mid end (encode_upper bytes)))
    c.as_slice.ensures c.write_hex.ensures in
    subst (λ (t : List ℕ). OnOk c.write_hex.result (Appends start end t)) is
    (appends_then_on_ok c.write_hex.result start mid end to octets
    c.in_ok-write_target-in-Some.ensures hex)
