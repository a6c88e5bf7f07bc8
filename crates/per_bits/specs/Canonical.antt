-- The bits that are written for a value: the fewest, with pad bits 0. The place is how many bits
-- of its octet stand before them, from 0 to 7.
use Rattle.std.specs.Prelude.{ℕ, ◌≡◌, ◌≤◌, ◌+◌, ◌-◌, ◌*◌, ◌%◌, List, ◌∷◌, ◌++◌, Bool, true, false}
use Rattle.std.specs.Prelude.{length, replicate, nat_lt, if◌then◌else◌}
use Rattle.per_bits.specs.Bits.{binary, width, octets_for, bits_of, pad_length}

-- Zeros up to the next octet.
abbrev pub pad : ℕ → List Bool
pad place = replicate (pad_length place) false

-- One encoding, and then another where the first ends.
abbrev pub then_encoding : (ℕ → List Bool) → (ℕ → List Bool) → ℕ → List Bool
then_encoding first second place = first place ++ second ((place + length (first place)) % 8)

-- n in this many bits, from the next octet on.
abbrev pub aligned_encoding : ℕ → ℕ → ℕ → List Bool
aligned_encoding count n place = pad place ++ binary count n

-- How many octets n has, less one, and n in those octets (X.691 10.5.7.4).
unfoldable pub wide_encoding : ℕ → ℕ → ℕ → List Bool
wide_encoding range n place =
    then_encoding (λ _. binary (width (octets_for range - 1)) (octets_for n - 1))
    (aligned_encoding (8 * octets_for n) n) place

-- The number n of 0 to range (X.691 10.5.7.1 to 10.5.7.4).
unfoldable pub offset_encoding : ℕ → ℕ → ℕ → List Bool
offset_encoding range n place =
    if nat_lt range 255 then binary (width range) n
    else if nat_lt range 256 then aligned_encoding 8 n place
    else if nat_lt range 65536 then aligned_encoding 16 n place
    else wide_encoding range n place

-- A constrained whole number from lo to hi (X.691 10.5).
abbrev pub whole_encoding : ℕ → ℕ → ℕ → ℕ → List Bool
whole_encoding lo hi n place = offset_encoding (hi - lo) (n - lo) place

-- A length determinant below 16,384 (X.691 10.9.3.6 and 10.9.3.7).
unfoldable pub length_encoding : ℕ → ℕ → List Bool
length_encoding n place =
    pad place ++ (if nat_lt n 128 then false ∷ binary 7 n else true ∷ false ∷ binary 14 n)

-- A normally small number, up to 63 (X.691 10.6.1).
abbrev pub small_encoding : ℕ → List Bool
small_encoding n = false ∷ binary 6 n

-- Octets, from the next octet on (X.691 16).
abbrev pub octets_encoding : List ℕ → ℕ → List Bool
octets_encoding octets place = pad place ++ bits_of octets

-- An open type field of these octets (X.691 10.2).
abbrev pub open_type_encoding : List ℕ → ℕ → List Bool
open_type_encoding octets =
    then_encoding (length_encoding (length octets)) (octets_encoding octets)

-- What a writer has written, and how many bits more there is room for.
pub record Written : Type 0 where
  pub bits : List Bool
  pub room : ℕ

abbrev pub place_in : Written → ℕ
place_in written = length written.bits % 8

-- The same with more bits at the end.
abbrev pub after : Written → List Bool → Written
after old bits = record { bits = old.bits ++ bits; room = old.room - length bits }

-- More bits at the end, for which at most this many bits of room were used.
abbrev pub Appends : ℕ → Written → List Bool → Written → Type 0
Appends most old bits new = (new.bits ≡ old.bits ++ bits) × (old.room ≤ new.room + most)
