-- Which bits encode a value in the ALIGNED variant of PER, however they are padded and whether or
-- not they are the fewest. The place is how many bits of its octet stand before them, from 0 to 7.
use Rattle.std.specs.Prelude.{ℕ, ◌≡◌, ◌+◌, ◌-◌, ◌*◌, ◌%◌, ◌<◌, ◌≤◌, List, [], ◌∷◌, ◌++◌}
use Rattle.std.specs.Prelude.{Bool, true, false, length, nat_lt, ◌⊎◌, Result, Ok, Err, MatchBool}
use Rattle.std.specs.List.{AllByRecursion}
use Rattle.per_bits.specs.Bits.{number, width, octets_for, bits_of, pad_length, place_of}

-- Bits of one form, and then bits of another, which begin where the first end.
abbrev pub Then : (ℕ → List Bool → Type 0) → (ℕ → List Bool → Type 0) → ℕ → List Bool → Type 0
Then first second place bits =
    (front : List Bool) × (rest : List Bool) × (bits ≡ front ++ rest)
    × first place front × second ((place + length front) % 8) rest

-- Any bits up to the next octet: what stands before an octet-aligned bit-field.
abbrev pub IsPad : ℕ → List Bool → Type 0
IsPad place bits = length bits ≡ pad_length place

-- A bit-field: this many bits that stand for n (X.691 10.3).
abbrev pub EncodesNumber : ℕ → ℕ → ℕ → List Bool → Type 0
EncodesNumber count n place bits = (length bits ≡ count) × (number bits ≡ n)

-- An octet-aligned bit-field.
abbrev pub EncodesAligned : ℕ → ℕ → ℕ → List Bool → Type 0
EncodesAligned count n = Then IsPad (EncodesNumber count n)

-- BOOLEAN: one bit, 1 for true (X.691 11).
abbrev pub EncodesBit : Bool → ℕ → List Bool → Type 0
EncodesBit bit place bits = bits ≡ bit ∷ []

-- The number n of 0 to range, if these are more than 65,536 numbers: first how many octets n has,
-- less one, in the bits that the range needs for this; then n in those octets (X.691 10.5.7.4).
abbrev pub EncodesWide : ℕ → ℕ → ℕ → List Bool → Type 0
EncodesWide range n place bits =
    (more : ℕ) × Then (EncodesNumber (width (octets_for range - 1)) more)
    (λ at octets. (more < octets_for range) × EncodesAligned (8 * (more + 1)) n at octets)
    place bits

-- The number n of 0 to range. If these are up to 255 numbers, it has the fewest bits (X.691
-- 10.5.7.1); if they are 256, one octet (10.5.7.2); if they are up to 65,536, two octets
-- (10.5.7.3).
abbrev pub EncodesOffset : ℕ → ℕ → ℕ → List Bool → Type 0
EncodesOffset range n place bits =
    MatchBool (nat_lt range 255) (EncodesNumber (width range) n place bits)
    (MatchBool (nat_lt range 256) (EncodesAligned 8 n place bits)
    (MatchBool (nat_lt range 65536) (EncodesAligned 16 n place bits)
    (EncodesWide range n place bits)))

-- A constrained whole number from lo to hi: what it is above lo (X.691 10.5).
abbrev pub EncodesWhole : ℕ → ℕ → ℕ → ℕ → List Bool → Type 0
EncodesWhole lo hi n place bits =
    (offset : ℕ) × (offset ≤ hi - lo) × (n ≡ lo + offset)
    × EncodesOffset (hi - lo) offset place bits

-- A length determinant without a bound, below 16,384: octet-aligned, 0 and seven bits (X.691
-- 10.9.3.6), or 10 and fourteen bits (10.9.3.7). None begins with 11, a fragment (10.9.3.8).
abbrev pub EncodesLength : ℕ → ℕ → List Bool → Type 0
EncodesLength n = Then IsPad (λ place bits. Then (EncodesBit false) (EncodesNumber 7 n) place bits
    ⊎ Then (EncodesBit true) (Then (EncodesBit false) (EncodesNumber 14 n)) place bits)

-- A normally small non-negative whole number, up to 63: 0 and six bits (X.691 10.6.1).
abbrev pub EncodesSmall : ℕ → ℕ → List Bool → Type 0
EncodesSmall n = Then (EncodesBit false) (EncodesNumber 6 n)

-- This many octets, each below 256, octet-aligned: the contents of an OCTET STRING of more than two
-- octets, or of one after its length (X.691 16).
abbrev pub EncodesOctets : ℕ → List ℕ → ℕ → List Bool → Type 0
EncodesOctets count octets = Then IsPad (λ place bits. (length octets ≡ count)
    × AllByRecursion (λ x. x < 256) octets × (bits ≡ bits_of octets))

-- An open type field: how many octets, and the octets (X.691 10.2).
abbrev pub EncodesOpenType : List ℕ → ℕ → List Bool → Type 0
EncodesOpenType octets place bits =
    (count : ℕ) × Then (EncodesLength count) (EncodesOctets count octets) place bits

-- The reader has passed bits of this form.
abbrev pub Passes : (ℕ → List Bool → Type 0) → List Bool → List Bool → Type 0
Passes encodes old new = (front : List Bool) × (old ≡ front ++ new) × encodes (place_of old) front

-- No bits at the front encode a value.
abbrev pub IsUnreadable : {A : Type 0} → (A → ℕ → List Bool → Type 0) → List Bool → Type 0
IsUnreadable {A} encodes bits = (x : A) (front rest : List Bool) → bits ≡ front ++ rest
    → encodes x (place_of bits) front → ⊥

-- What was read is what bits at the front encode, and the reader has passed these; or no bits at
-- the front encode a value, and the reader is where it was.
abbrev pub Decodes : {A F : Type 0} → (A → ℕ → List Bool → Type 0) → List Bool → Result A F
    → List Bool → Type 0
Decodes encodes old (Ok x) new = Passes (encodes x) old new
Decodes encodes old (Err fault) new = IsUnreadable encodes old × (new ≡ old)

-- Bits at one place begin with an encoding of at most one value, and of only one length.
abbrev pub HasOneReading : {A : Type 0} → (A → ℕ → List Bool → Type 0) → Type 0
HasOneReading {A} encodes = (v w : A) (place : ℕ) (front other rest more : List Bool) → place < 8
    → encodes v place front → encodes w place other → front ++ rest ≡ other ++ more
    → (v ≡ w) × (front ≡ other)
