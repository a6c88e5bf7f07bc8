use Rattle.std.proofs.Common.{ℕ, List, slice_index, subst}
use Rattle.std.specs.Fmt.{decimal}
use Rattle.std.specs.Prelude.{OnOk}
use Rattle.std.specs.Io.KnownBytes.{Appends}
use Rattle.recording.proofs.LinesWritten.{numbers_flat}
use Rattle.recording.proofs.zone_lines.write_network.Goals as goal

pub returns : goal.returns
returns g c =
    let network = c.args.network.now in
    let start = g.W.Write.contents c.args.out.now in
    let end = g.W.Write.contents c.write.new.self in
    subst (λ (t : List ℕ). OnOk c.write.result (Appends start end t))
    (numbers_flat 47 (decimal (slice_index network.ip 0)) (decimal (slice_index network.ip 1))
    (decimal (slice_index network.ip 2)) (decimal (slice_index network.ip 3))
    (decimal network.bits))
    c.write.ensures.bytes
