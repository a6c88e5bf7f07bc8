-- No encoding is shorter than the one that is written.
use Rattle.std.proofs.Common.{◌≡◌, ℕ, zero, suc, ◌+◌, ◌-◌, ◌*◌, ◌%◌, ◌^◌, ◌<◌, ◌≤◌}
use Rattle.std.proofs.Common.{List, [], ◌∷◌, Bool, true, false, cond, length}
use Rattle.std.proofs.Common.{refl, sym, ap, subst, arith, nat_lt, ◌⊎◌, inl, inr}
use Rattle.std.specs.Prelude.{replicate, MatchBool}
use Rattle.std.specs.List.{AllByRecursion}
use Rattle.std.proofs.lemmas.List.{length-append, length-replicate}
use Rattle.std.proofs.lemmas.Bool.{le-ltb, lt-ltb, cases_lt}
use Rattle.per_bits.specs.Bits.{binary, number, width, octets_for, bits_of, pad_length}
use Rattle.per_bits.specs.Encodes.{Then, IsPad, EncodesNumber, EncodesAligned, EncodesBit}
use Rattle.per_bits.specs.Encodes.{EncodesWide, EncodesOffset, EncodesWhole, EncodesLength}
use Rattle.per_bits.specs.Encodes.{EncodesSmall, EncodesOctets, EncodesOpenType}
use Rattle.per_bits.specs.Canonical.{pad, aligned_encoding, wide_encoding, offset_encoding}
use Rattle.per_bits.specs.Canonical.{whole_encoding, length_encoding, small_encoding}
use Rattle.per_bits.specs.Canonical.{octets_encoding, open_type_encoding}
use Rattle.per_bits.proofs.Agreement.{width_least}
use Rattle.per_bits.proofs.Binary.{length-binary}
use Rattle.per_bits.proofs.Numbers.{number_lt}
use Rattle.per_bits.proofs.Octets.{length-bits_of}

-- how long the parts are together
length-Then : (first second : ℕ → List Bool → Type 0) (place : ℕ) (bits : List Bool)
    → (h : Then first second place bits) → length bits ≡ length h.0 + length h.1
length-Then first second place bits h = omega (arith, ap length h.2, length-append h.0 h.1)

pub length-pad : (place : ℕ) → length (pad place) ≡ pad_length place
length-pad place = length-replicate (pad_length place) false

pub zeros : (count : ℕ) → AllByRecursion (λ bit. bit ≡ false) (replicate count false)
zeros zero = tt
zeros (suc count) = (refl, zeros count)

pub pad_shortest : (place : ℕ) (other : List Bool) → IsPad place other
    → length (pad place) ≤ length other
pad_shortest place other h = omega (arith, length-pad place)

pub bit_shortest : (bit : Bool) (place : ℕ) (other : List Bool) → EncodesBit bit place other
    → length (bit ∷ []) ≤ length other
bit_shortest bit place other h = omega (arith, ap length h)

number_below : (count n place : ℕ) (bits : List Bool) → EncodesNumber count n place bits
    → n < 2 ^ count
number_below count n place bits h =
    subst (λ (m : ℕ). m < 2 ^ count) h.1
    (subst (λ (k : ℕ). number bits < 2 ^ k) h.0 (number_lt bits))

pub number_shortest : (count n place : ℕ) (other : List Bool) → EncodesNumber count n place other
    → length (binary count n) ≤ length other
number_shortest count n place other h = omega (arith, length-binary count n, h.0)

aligned_shortest : (count n place : ℕ) (other : List Bool) → EncodesAligned count n place other
    → length (aligned_encoding count n place) ≤ length other
aligned_shortest count n place other h =
    omega (
      arith,
      length-Then IsPad (EncodesNumber count n) place other h,
      h.3,
      h.4.0,
      length-append (pad place) (binary count n),
      length-pad place,
      length-binary count n,
    )

wide_shortest : (range n place : ℕ) (other : List Bool) → EncodesWide range n place other
    → length (wide_encoding range n place) ≤ length other
unfolding wide_encoding
wide_shortest range n place other h =
    let more = h.0 in
    let count = width (octets_for range - 1) in
    let all : length other ≡ length h.1.0 + length h.1.1 =
    omega (arith, ap length h.1.2, length-append h.1.0 h.1.1) in
    let inner = h.1.4.1 in
    let at = (place + length h.1.0) % 8 in
    let rest : length h.1.1 ≡ pad_length at + 8 * (more + 1) =
    omega (arith, ap length inner.2, length-append inner.0 inner.1, inner.3, inner.4.0) in
    let holds : n < 2 ^ (8 * (more + 1)) =
    number_below (8 * (more + 1)) n ((at + length inner.0) % 8) inner.1 inner.4 in
    let narrow : width n ≤ 8 * (more + 1) = width_least (8 * (more + 1)) n holds in
    let fewer : octets_for n ≤ more + 1 = omega arith in
    let front = binary count (octets_for n - 1) in
    let own = (place + length front) % 8 in
    let own_front : length front ≡ count = length-binary count (octets_for n - 1) in
    let same : length front ≡ length h.1.0 = omega (arith, own_front, h.1.3.0) in
    let own_rest : length (aligned_encoding (8 * octets_for n) n own)
    ≡ pad_length own + 8 * octets_for n =
    omega (
      arith,
      length-append (pad own) (binary (8 * octets_for n) n),
      length-pad own,
      length-binary (8 * octets_for n) n,
    ) in
    omega (arith, length-append front (aligned_encoding (8 * octets_for n) n own))

either_shortest : (test : Bool) (P Q : List Bool → Type 0) (a b other : List Bool)
    → (P other → length a ≤ length other) → (Q other → length b ≤ length other)
    → MatchBool test (P other) (Q other) → length (cond test a b) ≤ length other
either_shortest true P Q a b other p q h = p h
either_shortest false P Q a b other p q h = q h

offset_shortest : (range n place : ℕ) (other : List Bool) → EncodesOffset range n place other
    → length (offset_encoding range n place) ≤ length other
unfolding offset_encoding
offset_shortest range n place other h =
    either_shortest (nat_lt range 255) (EncodesNumber (width range) n place)
    (λ bits. MatchBool (nat_lt range 256) (EncodesAligned 8 n place bits)
    (MatchBool (nat_lt range 65536) (EncodesAligned 16 n place bits)
    (EncodesWide range n place bits)))
    (binary (width range) n)
    (cond (nat_lt range 256) (aligned_encoding 8 n place)
    (cond (nat_lt range 65536) (aligned_encoding 16 n place) (wide_encoding range n place)))
    other
    (number_shortest (width range) n place other)
    (either_shortest (nat_lt range 256) (EncodesAligned 8 n place)
    (λ bits. MatchBool (nat_lt range 65536) (EncodesAligned 16 n place bits)
    (EncodesWide range n place bits))
    (aligned_encoding 8 n place)
    (cond (nat_lt range 65536) (aligned_encoding 16 n place) (wide_encoding range n place))
    other
    (aligned_shortest 8 n place other)
    (either_shortest (nat_lt range 65536) (EncodesAligned 16 n place)
    (EncodesWide range n place) (aligned_encoding 16 n place) (wide_encoding range n place)
    other
    (aligned_shortest 16 n place other)
    (wide_shortest range n place other)))
    h

pub whole_shortest : (lo hi n place : ℕ) (other : List Bool) → EncodesWhole lo hi n place other
    → length (whole_encoding lo hi n place) ≤ length other
whole_shortest lo hi n place other h =
    let offset : h.0 ≡ n - lo = omega (arith, h.2) in
    offset_shortest (hi - lo) (n - lo) place other
    (subst (λ (m : ℕ). EncodesOffset (hi - lo) m place other) offset h.3)

-- how many octets a length has, after its padding
abbrev length_octets : ℕ → ℕ
length_octets n = cond (nat_lt n 128) 1 2

length-length_encoding : (n place : ℕ)
    → length (length_encoding n place) ≡ pad_length place + 8 * length_octets n
unfolding length_encoding
length-length_encoding n place =
    let short = false ∷ binary 7 n in
    let long = true ∷ false ∷ binary 14 n in
    elim (cases_lt n 128) [
      | inl lt ↦ rw (lt-ltb n 128 lt)
          (omega (arith, length-append (pad place) short, length-pad place, length-binary 7 n))
      | inr ge ↦ rw (le-ltb n 128 ge)
          (omega (arith, length-append (pad place) long, length-pad place, length-binary 14 n))
    ]

abbrev LengthForm : ℕ → ℕ → List Bool → Type 0
LengthForm n place bits = Then (EncodesBit false) (EncodesNumber 7 n) place bits
    ⊎ Then (EncodesBit true) (Then (EncodesBit false) (EncodesNumber 14 n)) place bits

form_shortest : (n place : ℕ) (bits : List Bool) → LengthForm n place bits
    → 8 * length_octets n ≤ length bits
form_shortest n place bits (inl h) =
    let len : length bits ≡ 8 =
    omega (arith, ap length h.2, length-append h.0 h.1, ap length h.3, h.4.0) in
    let below : n < 2 ^ 7 = number_below 7 n ((place + length h.0) % 8) h.1 h.4 in
    rw (lt-ltb n 128 below) (omega arith)
form_shortest n place bits (inr h) =
    let inner = h.4 in
    let rest : length h.1 ≡ 15 =
    omega (
      arith,
      ap length inner.2,
      length-append inner.0 inner.1,
      ap length inner.3,
      inner.4.0,
    ) in
    let len : length bits ≡ 16 =
    omega (arith, ap length h.2, length-append h.0 h.1, ap length h.3) in
    elim (cases_lt n 128) [
      | inl lt ↦ rw (lt-ltb n 128 lt) (omega arith)
      | inr ge ↦ rw (le-ltb n 128 ge) (omega arith)
    ]

form_below : (n place : ℕ) (bits : List Bool) → LengthForm n place bits → n < 16384
form_below n place bits (inl h) =
    omega (arith, number_below 7 n ((place + length h.0) % 8) h.1 h.4)
form_below n place bits (inr h) =
    number_below 14 n (((place + length h.0) % 8 + length h.4.0) % 8) h.4.1 h.4.4

pub length_shortest : (n place : ℕ) (other : List Bool) → EncodesLength n place other
    → length (length_encoding n place) ≤ length other
length_shortest n place other h =
    omega (
      arith,
      length-Then IsPad (LengthForm n) place other h,
      h.3,
      form_shortest n ((place + length h.0) % 8) h.1 h.4,
      length-length_encoding n place,
    )

pub length_below : (n place : ℕ) (bits : List Bool) → EncodesLength n place bits → n < 16384
length_below n place bits h = form_below n ((place + length h.0) % 8) h.1 h.4

pub small_shortest : (n place : ℕ) (other : List Bool) → EncodesSmall n place other
    → length (small_encoding n) ≤ length other
small_shortest n place other h =
    omega (
      arith,
      length-Then (EncodesBit false) (EncodesNumber 6 n) place other h,
      ap length h.3,
      h.4.0,
      length-binary 6 n,
    )

abbrev Octets : ℕ → List ℕ → ℕ → List Bool → Type 0
Octets count octets place bits =
    (length octets ≡ count) × AllByRecursion (λ x. x < 256) octets × (bits ≡ bits_of octets)

-- octets have one length at a place
length-Octets : (count : ℕ) (octets : List ℕ) (place : ℕ) (bits : List Bool)
    → EncodesOctets count octets place bits
    → length bits ≡ pad_length place + 8 * length octets
length-Octets count octets place bits h =
    omega (
      arith,
      length-Then IsPad (Octets count octets) place bits h,
      h.3,
      ap length h.4.2,
      length-bits_of octets,
    )

length-octets_encoding : (octets : List ℕ) (place : ℕ)
    → length (octets_encoding octets place) ≡ pad_length place + 8 * length octets
length-octets_encoding octets place =
    omega (
      arith,
      length-append (pad place) (bits_of octets),
      length-pad place,
      length-bits_of octets,
    )

pub octets_shortest : (count : ℕ) (octets : List ℕ) (place : ℕ) (other : List Bool)
    → EncodesOctets count octets place other
    → length (octets_encoding octets place) ≤ length other
octets_shortest count octets place other h =
    omega (arith, length-Octets count octets place other h, length-octets_encoding octets place)

pub open_type_shortest : (octets : List ℕ) (place : ℕ) (other : List Bool)
    → EncodesOpenType octets place other
    → length (open_type_encoding octets place) ≤ length other
open_type_shortest octets place other h =
    let count = h.0 in
    let at = (place + length h.1.0) % 8 in
    let all : length other ≡ length h.1.0 + length h.1.1 =
    omega (arith, ap length h.1.2, length-append h.1.0 h.1.1) in
    let inner = length-Octets count octets at h.1.1 h.1.4 in
    let least : length (length_encoding (length octets) place) ≤ length h.1.0 =
    length_shortest (length octets) place h.1.0
    (subst (λ (m : ℕ). EncodesLength m place h.1.0) (sym h.1.4.4.0) h.1.3) in
    let front = length_encoding (length octets) place in
    let own = (place + length front) % 8 in
    let none : pad_length own ≡ 0 = omega (arith, length-length_encoding (length octets) place) in
    omega (
      arith,
      length-append front (octets_encoding octets own),
      length-octets_encoding octets own,
    )
