-- What is written for an open type is an encoding of what it holds, and which additions are there.
use Rattle.std.proofs.Common.{◌≡◌, ℕ, ◌+◌, ◌%◌, ◌<◌, List, [], ◌∷◌, ◌++◌, Bool, true, false, length}
use Rattle.std.proofs.Common.{refl, sym, ap, subst, ◌∙◌, arith, append-nil, length-append, zero}
use Rattle.std.proofs.Common.{suc, ◌*◌, cond, nat_lt, take, drop, length-take, length-drop}
use Rattle.std.proofs.Common.{take-append-drop, Some, Ok}
use Rattle.std.proofs.lemmas.List.{length-replicate}
use Rattle.std.proofs.lemmas.Bool.{cond_both, le-ltb}
use Rattle.std.proofs.Math.ListN.{drop_of_length-le}
use Rattle.per_bits.specs.Canonical as canonical
use Rattle.per_bits.proofs.Agreement.{length_encodes, small_encodes}
use Rattle.per_bits.specs.Bits.{binary, bits_of, octets_in, pad_length, place_of}
use Rattle.per_bits.specs.Readings.{front_octets_reading, octets_reading}
use Rattle.per_bits.proofs.Binary.{length-binary, octet-number}
use Rattle.per_bits.proofs.OctetForms.{octets_exact}
use Rattle.ras_grammar.specs.Grammar as grammar
use Rattle.ras_grammar.specs.Grammar.{Grammar}
use Rattle.ras_grammar.specs.Sequences as sequences
use Rattle.ras_writing.specs.Encoding.{Encoding, in_order}
use Rattle.ras_writing.specs.Encoding as encoding
use Rattle.ras_writing.proofs.Written.{AreEncodings}

length_ends : (n place : ℕ) → (place + length (canonical.length_encoding n place)) % 8 ≡ 0
unfolding canonical.length_encoding
length_ends n place =
    let short = false ∷ binary 7 n in
    let long = true ∷ false ∷ binary 14 n in
    let whole : length (cond (nat_lt n 128) short long) % 8 ≡ 0 = cond_both
    (nat_lt n 128) short long (λ bits. length bits % 8 ≡ 0) (λ _. omega
    (arith, length-binary 7 n)) (λ _. omega (arith, length-binary 14 n)) in
    omega (
      arith,
      length-append (canonical.pad place) (cond
          (nat_lt n 128) short long),
      length-replicate (pad_length place) false,
    )

pub bits_of-octets_in : (count : ℕ) (bits : List Bool) → length bits ≡ 8 * count → bits_of
    (octets_in count bits) ≡ bits
bits_of-octets_in zero [] len = refl
bits_of-octets_in zero (x ∷ xs) len = absurd (omega (arith, len))
bits_of-octets_in (suc count) bits len =
    let eight : length (take 8 bits) ≡ 8 = omega (arith, length-take 8 bits) in
    rw (
      octet-number (take 8 bits) eight,
      bits_of-octets_in count (drop 8 bits) (omega
          (arith, length-drop 8 bits)),
    ) (take-append-drop 8 bits)

octets_of_bits : (count : ℕ) (bits : List Bool) → length bits ≡ 8 * count →
    (grammar.octets count).encodes (octets_in count bits) 0 bits
unfolding front_octets_reading
octets_of_bits count bits len =
    let none : length bits % 8 ≡ 0 = omega arith in
    let long : nat_lt (length bits) (8 * count) ≡ false = le-ltb (length bits) (8 * count)
    (omega arith) in
    let place : place_of bits ≡ 0 = omega arith in
    let read : octets_reading count bits ≡ Ok (octets_in count bits, drop (8 * count) bits) = rw
    (none, long) refl in
    let h = (octets_exact count).found bits (drop (8 * count) bits) (octets_in count bits) read in
    let nothing : drop (8 * count) bits ≡ [] = drop_of_length-le bits (omega arith) in
    let all : h.0 ≡ bits = sym (append-nil h.0) ∙ ap (λ (t : List Bool). h.0 ++ t) (sym nothing)
    ∙ sym h.1 in
    subst (λ (t : List Bool). (grammar.octets count).encodes (octets_in count bits) 0 t) all
    (subst (λ (n : ℕ). (grammar.octets count).encodes (octets_in count bits) n h.0) place h.2)

open_here : (count : ℕ) (es : List Encoding) (place : ℕ) → count < 16384 → length (in_order es 0)
    ≡ 8 * count
    → grammar.open_type.encodes (octets_in count (in_order es 0)) place (in_order
    (encoding.size count ∷ es) place)
open_here count es place few len =
    let front = canonical.length_encoding count place in
    let after = (place + length front) % 8 in
    let start : 0 ≡ after = sym (length_ends count place) in
    let contents = octets_in count (in_order es 0) in (
      count,
      (
        front,
        in_order es after,
        refl,
        length_encodes count place few,
        subst (λ (n : ℕ). (grammar.octets count).encodes contents n (in_order es n)) start
            (octets_of_bits count (in_order es 0) len),
      ),
    )

pub inside_written : {A : Type 0} (g : Grammar A) {x : A} (count : ℕ) (es : List Encoding)
    → count < 16384 → length (in_order es 0) ≡ 8 * count
    → AreEncodings g x es → AreEncodings (grammar.inside g) x (encoding.size count ∷ es)
inside_written g {x} count es few len p = record {
  here = λ place _.
      let bits = in_order es 0 in
      let opened = open_here count es place few len in (
        octets_in count bits,
        opened,
        bits,
        [],
        bits_of-octets_in count bits len ∙ sym
            (append-nil bits),
        p.here 0 (omega arith),
      );
}

pub skipped_written : (count : ℕ) (es : List Encoding) → count < 16384 → length (in_order es 0)
    ≡ 8 * count
    → AreEncodings (grammar.skipped true grammar.open_type) tt (encoding.size count ∷ es)
skipped_written count es few len = record {
  here = λ place _.
      let bits = in_order (encoding.size count ∷ es) place in (
        octets_in count (in_order es 0),
        (
          bits,
          [],
          sym (append-nil bits),
          open_here count es place
              few len,
          (refl, refl),
        ),
      );
}

-- an addition whose octets begin with a value
pub front_written : {A : Type 0} (g : Grammar A) {x : A} (count : ℕ) (es : List Encoding)
    (front rest : List Bool)
    → count < 16384 → length (in_order es 0) ≡ 8 * count → in_order es 0 ≡ front ++ rest
    → g.encodes x 0 front
    → AreEncodings (grammar.optional true (grammar.inside g)) (Some x) (encoding.size count ∷ es)
front_written g {x} count es front rest few len parts p = record {
  here = λ place _.
      let bits = in_order es 0 in
      let all = in_order (encoding.size count ∷ es) place in
      let opened = open_here count es place few len in (
        x,
        (
          all,
          [],
          sym (append-nil all),
          (
            octets_in count bits,
            opened,
            front,
            rest,
            bits_of-octets_in count bits len ∙ parts,
            p,
          ),
          (refl, refl),
        ),
      );
}

-- ---- which additions are there

presence_here : (present : List Bool) (place : ℕ) → (grammar.each
    (length present) grammar.boolean).encodes present place present
presence_here [] place = (refl, refl)
presence_here (b ∷ bs) place = (
  b,
  (
    b ∷ [],
    bs,
    refl,
    refl,
    (
      bs,
      (
        bs,
        [],
        sym
            (append-nil bs),
        presence_here bs ((place + 1) % 8),
        (refl, refl),
      ),
    ),
  ),
)

pub additions_written : (present : List Bool) (more : ℕ) (e : Encoding) → length present
    ≡ more + 1 → more < 64 → ((place : ℕ) → e place ≡ present)
    → AreEncodings (sequences.additions true) present (encoding.small more ∷ e ∷ [])
additions_written present more e len few is = record {
  here = λ place _.
      let front = canonical.small_encoding more in
      let after = (place + length front) % 8 in
      let all : e after ++ [] ≡ present = append-nil (e after) ∙ is after in
      let there : (grammar.each (more + 1) grammar.boolean).encodes present after present = subst
      (λ (n : ℕ). (grammar.each n grammar.boolean).encodes present after present) len
      (presence_here present after) in (
        more,
        (
          front,
          e after ++ [],
          refl,
          small_encodes more place few,
          subst (λ (t : List Bool).
              (grammar.each (more + 1) grammar.boolean).encodes present after t) (sym all) there,
        ),
      );
}
