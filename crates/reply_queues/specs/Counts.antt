-- How many there are, as a `u64` counts them.
use Rattle.std.specs.Prelude.{ℕ, ◌-◌, ◌^◌, List, length, min}

-- the length of the list, or the largest `u64` if the list is longer
abbrev pub saturating_count : {T : Type 0} → List T → ℕ
saturating_count items = min (length items) (2 ^ 64 - 1)
