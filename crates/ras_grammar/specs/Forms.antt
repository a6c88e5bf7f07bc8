-- The relations and reading functions of which grammars are made.
use Rattle.std.specs.Prelude.{ℕ, ◌≡◌, List, [], ◌++◌, Bool, Result, Ok}
use Rattle.per_bits.specs.Bits.{bits_of}
use Rattle.per_bits.specs.Encodes.{Then, IsPad, EncodesOpenType}
use Rattle.per_bits.specs.Readings.{◌>>=◌, aligned, open_type_reading}
use Rattle.ras_grammar.specs.declared.fault.ReadFault.{ReadFault}
use Rattle.ras_grammar.specs.Faults.{lifted}

-- the bits of one value, and then those of another
abbrev pub EncodesBoth : {A B : Type 0} → (A → ℕ → List Bool → Type 0) → (A → B → ℕ → List Bool
    → Type 0)
    → B → ℕ → List Bool → Type 0
EncodesBoth {A} first next y place bits = (x : A) × Then (first x) (next x y) place bits

-- no bits, for the one value
abbrev pub EncodesNothing : {A : Type 0} → A → A → ℕ → List Bool → Type 0
EncodesNothing x y place bits = (y ≡ x) × (bits ≡ [])

-- the bits of an open type whose octets begin with a value
abbrev pub EncodesInside : {A : Type 0} → (A → ℕ → List Bool → Type 0) → A → ℕ → List Bool → Type 0
EncodesInside encodes x place bits =
    (octets : List ℕ) × EncodesOpenType octets place bits
    × (front : List Bool) × (rest : List Bool) × (bits_of octets ≡ front ++ rest)
    × encodes x 0 front

abbrev pub both_reading : {A B : Type 0} → (List Bool → Result (A × List Bool) ReadFault)
    → (A → List Bool → Result (B × List Bool) ReadFault) → List Bool → Result (B
    × List Bool) ReadFault
both_reading first next bits = do
  x ← first bits
  next x.0 x.1

abbrev pub inside_reading : {A : Type 0} → (List Bool → Result (A × List Bool) ReadFault)
    → List Bool → Result (A × List Bool) ReadFault
inside_reading reading bits = do
  octets ← lifted (open_type_reading bits)
  x ← reading (bits_of octets.0)
  Ok (x.0, octets.1)

-- the bits up to the next octet, whatever they are, and a value after them
abbrev pub EncodesAligned : {A : Type 0} → (A → ℕ → List Bool → Type 0) → A → ℕ → List Bool → Type 0
EncodesAligned encodes x = Then IsPad (encodes x)

abbrev pub aligned_reading : {A : Type 0} → (List Bool → Result (A × List Bool) ReadFault)
    → List Bool → Result (A × List Bool) ReadFault
aligned_reading reading bits = reading (aligned bits)
