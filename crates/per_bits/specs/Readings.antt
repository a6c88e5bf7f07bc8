-- What is read from the front of bits that end with an octet: a value and the bits after it, or a
-- fault. Encodes defines which bits have a value; these functions tell which fault the others have.
use Rattle.std.specs.Prelude.{ℕ, ◌≡◌, ◌+◌, ◌-◌, ◌*◌, ◌%◌, List, [], ◌∷◌, Bool, length, take, drop}
use Rattle.std.specs.Prelude.{nat_lt, if◌then◌else◌, Result, Ok, Err}
use Rattle.std.specs.Borrow.{Bor}
use Rattle.per_bits.specs.Bits.{number, bits_of, octets_in, width, octets_for}
use Rattle.per_bits.specs.declared.fault.ReadFault.{ReadFault}
use Rattle.per_bits.specs.declared.fault.ReadFault.TheVariants.{Truncated, BadLength, Fragmented}
use Rattle.per_bits.specs.declared.fault.ReadFault.TheVariants.{TooMany}

infixl 10 ◌>>=◌
abbrev pub ◌>>=◌ : {A B F : Type 0} → Result A F → (A → Result B F) → Result B F
(Ok x) >>= f = f x
(Err e) >>= f = Err e

-- What reading returned is what this function gives, and the reader stands after it; after a fault
-- the reader is where it was.
abbrev pub Gives : {A F : Type 0} → (List Bool → Result (A × List Bool) F) → List Bool
    → Result A F → List Bool → Type 0
Gives read old (Ok x) new = read old ≡ Ok (x, new)
Gives read old (Err fault) new = (read old ≡ Err fault) × (new ≡ old)

-- The octets behind a reference.
abbrev pub of_octets : Result (Bor (List ℕ)) ReadFault → Result (List ℕ) ReadFault
of_octets (Ok octets) = Ok octets.now
of_octets (Err fault) = Err fault

-- BOOLEAN (X.691 11).
abbrev pub bit_reading : List Bool → Result (Bool × List Bool) ReadFault
bit_reading [] = Err Truncated
bit_reading (bit ∷ bits) = Ok (bit, bits)

-- A number in this many bits (X.691 10.3).
unfoldable pub number_reading : ℕ → List Bool → Result (ℕ × List Bool) ReadFault
number_reading count bits =
    if nat_lt (length bits) count then Err Truncated
    else Ok (number (take count bits), drop count bits)

-- The bits from the next octet on.
abbrev pub aligned : List Bool → List Bool
aligned bits = drop (length bits % 8) bits

abbrev pub aligned_number_reading : ℕ → List Bool → Result (ℕ × List Bool) ReadFault
aligned_number_reading count bits = number_reading count (aligned bits)

-- How many octets, less one, and the number in those octets (X.691 10.5.7.4).
unfoldable pub wide_reading : ℕ → List Bool → Result (ℕ × List Bool) ReadFault
wide_reading range bits = do
  more ← number_reading (width (octets_for range - 1)) bits
  if nat_lt more.0 (octets_for range) then aligned_number_reading (8 * (more.0 + 1)) more.1
      else Err BadLength

-- What is above the lower bound (X.691 10.5.7.1 to 10.5.7.4).
unfoldable pub offset_reading : ℕ → List Bool → Result (ℕ × List Bool) ReadFault
offset_reading range bits =
    if nat_lt range 255 then number_reading (width range) bits
    else if nat_lt range 256 then aligned_number_reading 8 bits
    else if nat_lt range 65536 then aligned_number_reading 16 bits
    else wide_reading range bits

-- A constrained whole number from lo to hi (X.691 10.5).
unfoldable pub whole_reading : ℕ → ℕ → List Bool → Result (ℕ × List Bool) ReadFault
whole_reading lo hi bits = do
  offset ← offset_reading (hi - lo) bits
  if nat_lt (hi - lo) offset.0 then Err BadLength else Ok (lo + offset.0, offset.1)

-- After a first bit 1: a 0 and fourteen bits (X.691 10.9.3.7), or a fragment (10.9.3.8).
unfoldable pub long_length_reading : List Bool → Result (ℕ × List Bool) ReadFault
long_length_reading bits = do
  fragment ← bit_reading bits
  if fragment.0 then Err Fragmented else number_reading 14 fragment.1

-- A 0 and seven bits, or 10 and fourteen (X.691 10.9.3.6 and 10.9.3.7).
unfoldable pub length_reading : List Bool → Result (ℕ × List Bool) ReadFault
length_reading bits = do
  long ← bit_reading (aligned bits)
  if long.0 then long_length_reading long.1 else number_reading 7 long.1

-- A 0 and six bits (X.691 10.6.1); a first bit 1 begins the form for 64 and above (10.6.2).
unfoldable pub small_reading : List Bool → Result (ℕ × List Bool) ReadFault
small_reading bits = do
  long ← bit_reading bits
  if long.0 then Err TooMany else number_reading 6 long.1

-- This many octets at the front of bits that begin with an octet.
unfoldable pub front_octets_reading : ℕ → List Bool → Result (List ℕ × List Bool) ReadFault
front_octets_reading count bits =
    if nat_lt (length bits) (8 * count) then Err Truncated
    else Ok (octets_in count bits, drop (8 * count) bits)

-- This many octets, from the next octet on (X.691 16).
abbrev pub octets_reading : ℕ → List Bool → Result (List ℕ × List Bool) ReadFault
octets_reading count bits = front_octets_reading count (aligned bits)

-- What a cut of octets gives is what their bits give.
abbrev pub Splits : Result (List ℕ × List Bool) ReadFault
    → Result (Bor (List ℕ) × Bor (List ℕ)) ReadFault → Type 0
Splits read (Ok parts) = read ≡ Ok (parts.0.now, bits_of parts.1.now)
Splits read (Err fault) = read ≡ Err fault

-- An open type field: how many octets, and the octets (X.691 10.2).
unfoldable pub open_type_reading : List Bool → Result (List ℕ × List Bool) ReadFault
open_type_reading bits = do
  count ← length_reading bits
  octets_reading count.0 count.1
