-- What is written: the encodings of components, one after another.
use Rattle.std.specs.Prelude.{ℕ, ◌≡◌, ◌≤◌, ◌+◌, ◌/◌, ◌%◌, List, [], ◌∷◌, ◌++◌, Bool, length}
use Rattle.per_bits.specs.Bits.{binary, octets_in}
use Rattle.per_bits.specs.Canonical as canonical
use Rattle.per_bits.specs.Canonical.{Written, then_encoding}

-- the bits of a value, by how many bits of their octet stand before them
abbrev pub Encoding : Type 0
Encoding = ℕ → List Bool

abbrev pub in_order : List Encoding → Encoding
in_order [] place = []
in_order (component ∷ others) place = then_encoding component (in_order others) place

-- the octets of bits, the last padded with zeros
unfoldable pub padded_octets : List Bool → List ℕ
padded_octets bits = octets_in ((length bits + 7) / 8) (bits ++ canonical.pad (length bits % 8))

-- ---- the forms of X.691

abbrev pub boolean : Bool → Encoding
boolean bit place = bit ∷ []

abbrev pub align : Encoding
align place = canonical.pad place

-- a number in this many bits
abbrev pub bits : ℕ → ℕ → Encoding
bits count n place = binary count n

abbrev pub whole : ℕ → ℕ → ℕ → Encoding
whole lo hi n = canonical.whole_encoding lo hi n

abbrev pub size : ℕ → Encoding
size n = canonical.length_encoding n

abbrev pub small : ℕ → Encoding
small n place = canonical.small_encoding n

abbrev pub octets : List ℕ → Encoding
octets list = canonical.octets_encoding list

-- ---- the bits of a writer

-- bits with components after them
abbrev pub behind : List Encoding → List Bool → List Bool
behind [] bits = bits
behind (component ∷ others) bits = behind others (bits ++ component (length bits % 8))

-- The components stand after what was there, and at most this many bits of room were used for them.
abbrev pub Writes : ℕ → List Encoding → Written → Written → Type 0
Writes most components old new = (new.bits ≡ behind components old.bits) ×
    (old.room ≤ new.room + most)
