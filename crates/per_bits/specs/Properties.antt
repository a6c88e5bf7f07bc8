-- What may hold of the bits that are written for a value, and of a reading.
use Rattle.std.specs.Prelude.{ℕ, ◌≡◌, ◌<◌, ◌≤◌, ◌+◌, ◌%◌, List, ◌++◌, Bool, length, Result}
use Rattle.std.specs.Prelude.{Ok, Err}
use Rattle.per_bits.specs.Bits.{place_of}

-- These bits are an encoding, and no encoding at this place is shorter.
abbrev pub IsShortest : (ℕ → List Bool → Type 0) → ℕ → List Bool → Type 0
IsShortest encodes place bits =
    encodes place bits × ((other : List Bool) → encodes place other → length bits ≤ length other)

-- Reading what is written for x at any place, with any bits after it up to the end of an octet,
-- gives x and leaves those bits.
abbrev pub ReadsBack : {A F : Type 0} → (List Bool → Result (A × List Bool) F) → A
    → (ℕ → List Bool) → Type 0
ReadsBack {A} {F} read x encoding = (place : ℕ) (rest : List Bool)
    → place_of (encoding place ++ rest) ≡ place → read (encoding place ++ rest) ≡ Ok (x, rest)

-- What reading gives with more bits after these: the same value, with those bits left; and the same
-- fault, unless it is that the octets end.
abbrev pub Keeps : {A F : Type 0} → F → Result (A × List Bool) F → Result (A × List Bool) F
    → List Bool → Type 0
Keeps ended (Ok value) further more = further ≡ Ok (value.0, value.1 ++ more)
Keeps ended (Err fault) further more = (fault ≡ ended → ⊥) → further ≡ Err fault

-- Octets after those that are read do not change what is read of these.
abbrev pub IsLocal : {A F : Type 0} → F → (List Bool → Result (A × List Bool) F) → Type 0
IsLocal {A} {F} ended read = (bits more : List Bool) → length more % 8 ≡ 0
    → Keeps ended (read bits) (read (bits ++ more)) more

-- What reading gives passes at most this many bits; and the octets end only if fewer are left.
abbrev pub Spends : {A F : Type 0} → F → ℕ → List Bool → Result (A × List Bool) F → Type 0
Spends ended most bits (Ok value) = length bits ≤ length value.1 + most
Spends ended most bits (Err fault) = fault ≡ ended → length bits < most

-- Whatever bits are left, this many are enough for what is read.
abbrev pub IsWithin : {A F : Type 0} → F → ℕ → (List Bool → Result (A × List Bool) F) → Type 0
IsWithin ended most read = (bits : List Bool) → Spends ended most bits (read bits)
