use Rattle.std.proofs.Common.{◌++◌, ◌∷◌, [], false, append_assoc, ap, sym, ◌∙◌}
use Rattle.per_bits.specs.Bits.{binary}
use Rattle.per_bits.specs.Canonical.{after, pad, place_in}
use Rattle.per_bits.proofs.Cases.{length_short}
use Rattle.per_bits.proofs.Writing.{after-after}
use Rattle.per_bits.proofs.WrittenParts.{octet-short}
use Rattle.per_bits.proofs.writer.BitWriter.write_length.Goals as goal

pub returns-then-n-lt128 : goal.returns-then-n-lt128
returns-then-n-lt128 c =
    let old = c.args.self.now in
    let n = c.args.n in
    c.whole_octet.ensures
    ∙ ap (λ w. after w (binary 8 n)) c.align.ensures.exact
    ∙ after-after old (pad (place_in old)) (binary 8 n)
    ∙ ap (λ bits. after old (pad (place_in old) ++ bits)) (octet-short n c.if-n-lt128.true)
    ∙ ap (λ bits. after old bits) (sym (append_assoc (pad (place_in old)) (false ∷ []) (binary 7 n)))
    ∙ ap (λ bits. after old bits) (sym (length_short n (place_in old) c.if-n-lt128.true))
