-- When a reading function reads what a relation allows, and nothing else.
use Rattle.std.specs.Prelude.{ℕ, ◌≡◌, List, ◌++◌, Bool, Result, Ok}
use Rattle.per_bits.specs.Bits.{place_of}

-- If it reads x, the bits that it passes encode x; and bits that encode x at their place are read
-- as x.
pub record IsExact {A F : Type 0} (encodes : A → ℕ → List Bool → Type 0)
    (read : List Bool → Result (A × List Bool) F) : Type 0 where
  pub found : (bits rest : List Bool) (x : A) → read bits ≡ Ok (x, rest)
      → (front : List Bool) × (bits ≡ front ++ rest) × encodes x (place_of bits) front
  pub only : (front rest : List Bool) (x : A) → encodes x (place_of (front ++ rest)) front
      → read (front ++ rest) ≡ Ok (x, rest)
