-- What the system tells of a buffer.
use Rattle.std.specs.Prelude.{ℕ, ◌/◌, Option, Some, None, ℤ, pos, negsuc}

-- half of a number, rounded down; none if it is below 0
abbrev pub half_of : ℤ → Option ℕ
half_of (pos n) = Some (n / 2)
half_of (negsuc n) = None
