use Rattle.std.proofs.Common.{ℕ, List, slice_index, subst}
use Rattle.std.specs.Fmt.{decimal}
use Rattle.std.specs.Prelude.{OnOk}
use Rattle.std.specs.Io.KnownBytes.{Appends}
use Rattle.recording.proofs.LinesWritten.{numbers_flat}
use Rattle.recording.proofs.zone_lines.write_address.Goals as goal

pub returns : goal.returns
returns g c =
    let address = c.args.address.now in
    let start = g.W.Write.contents c.args.out.now in
    let end = g.W.Write.contents c.write.new.self in
    subst (λ (t : List ℕ). OnOk c.write.result (Appends start end t))
    (numbers_flat 58 (decimal (slice_index address.ip 0)) (decimal (slice_index address.ip 1))
    (decimal (slice_index address.ip 2)) (decimal (slice_index address.ip 3))
    (decimal address.port))
    c.write.ensures.bytes
