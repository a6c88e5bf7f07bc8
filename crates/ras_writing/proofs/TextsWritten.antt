-- What is written for a text is an encoding of its characters.
use Rattle.std.proofs.Common.{ℕ, ◌+◌, ◌%◌, ◌<◌, ◌≤◌, ◌^◌, List, [], ◌∷◌, ◌++◌, false, length, refl}
use Rattle.std.proofs.Common.{sym, arith, append-nil}
use Rattle.std.specs.List.{AllByRecursion}
use Rattle.std.proofs.lemmas.List.{length-replicate}
use Rattle.per_bits.specs.Canonical as canonical
use Rattle.per_bits.proofs.Agreement.{whole_encodes, binary_encodes}
use Rattle.per_bits.specs.Bits.{binary, pad_length}
use Rattle.ras_grammar.specs.Grammar as grammar
use Rattle.ras_grammar.specs.Sequences as sequences
use Rattle.ras_writing.specs.Encoding.{in_order}
use Rattle.ras_writing.specs.Replies.{characters, bmp_string, identifier}
use Rattle.ras_writing.proofs.Written.{AreEncodings}

characters_here : (text : List ℕ) → AllByRecursion (λ x. x < 65536) text → (place : ℕ)
    → (grammar.each (length text) (grammar.bits 16)).encodes text place (in_order
    (characters text) place)
characters_here [] fit place = (refl, refl)
characters_here (x ∷ xs) fit place =
    let here = binary 16 x in
    let after = (place + length here) % 8 in
    let rest = in_order (characters xs) after in (
      x,
      (
        here,
        rest,
        refl,
        binary_encodes 16 x place fit.0,
        (
          xs,
          (
            rest,
            [],
            sym
                (append-nil rest),
            characters_here xs fit.1 after,
            (refl, refl),
          ),
        ),
      ),
    )

pub bmp_written : (most : ℕ) (text : List ℕ) → 1 ≤ length text → length text ≤ most
    → most < 2 ^ 32 → AllByRecursion (λ x. x < 65536) text
    → AreEncodings (sequences.bmp_string most) text (bmp_string most text)
unfolding sequences.bmp_string
bmp_written most text some few small fit = record {
  here = λ place _.
      let count = canonical.whole_encoding 1 most (length text) place in
      let after = (place + length count) % 8 in
      let pad = canonical.pad after in
      let then = (after + length pad) % 8 in (
        length text,
        (
          count,
          pad ++ in_order (characters text) then,
          refl,
          whole_encodes 1 most (length text) place some few small,
          (
            pad,
            in_order (characters text) then,
            refl,
            length-replicate
                (pad_length after) false,
            characters_here text fit then,
          ),
        ),
      );
}

pub identifier_written : (text : List ℕ) → 1 ≤ length text → length text ≤ 128 → AllByRecursion
    (λ x. x < 65536) text → AreEncodings sequences.identifier text (identifier text)
unfolding identifier
identifier_written text some few fit = bmp_written 128 text some few (omega arith) fit
