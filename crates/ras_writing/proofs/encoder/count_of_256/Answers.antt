use Rattle.std.proofs.Common.{◌-◌, ◌%◌, ◌++◌, List, Bool, length, arith, sym, ap, ◌∙◌, append_assoc}
use Rattle.per_bits.specs.Bits.{binary}
use Rattle.per_bits.specs.Canonical.{pad}
use Rattle.ras_writing.proofs.Widths.{whole-one_octet}
use Rattle.ras_writing.proofs.encoder.count_of_256.Goals as goal

pub returns : goal.returns
returns c =
    let old = c.args.writer.now.bits in
    let eight = binary 8 (c.args.count - 1) in (
      c.bits.ensures.appends.0
          ∙ ap (λ (t : List Bool). t ++ eight) c.align.ensures.appends.0
          ∙ append_assoc old (pad (length old % 8)) eight
          ∙ ap (λ (t : List Bool). old ++ t) (sym (whole-one_octet c.args.count (length old % 8))),
      omega (arith, c.bits.ensures.appends.1, c.align.ensures.appends.1),
    )
