-- Identifiers that are numbers in decimal digits, and where the search for an unused one begins.
use Rattle.std.specs.Prelude.{ℕ, ◌≤◌, ◌<◌, ◌+◌, ◌-◌, ◌*◌, ◌^◌, ◌&&◌, List, [], ◌∷◌, length}
use Rattle.std.specs.Prelude.{nat_eq, nat_le, nat_lt, if◌then◌else◌, Option, Some, None}
use Rattle.std.specs.Option.{option_and_then}

-- the number that a text of decimal digits stands for
abbrev pub number_of : List ℕ → ℕ
number_of [] = 0
number_of (d ∷ ds) = (d - 48) * 10 ^ length ds + number_of ds

-- this number with one more digit, if the character is one and the number has no more than 64 bits
abbrev pub with_digit : ℕ → ℕ → Option ℕ
with_digit number c =
    if nat_le 48 c && nat_le c 57 && nat_lt (number * 10 + (c - 48)) (2 ^ 64)
    then Some (number * 10 + (c - 48)) else None

-- what this number comes to with these digits behind it
abbrev pub with_digits : ℕ → List ℕ → Option ℕ
with_digits number [] = Some number
with_digits number (c ∷ cs) = option_and_then (λ n. with_digits n cs) (with_digit number c)

-- the number of at most 64 bits that this identifier is; None for any other identifier
abbrev pub number_in : List ℕ → Option ℕ
number_in identifier = with_digits 0 identifier

-- the next one of the numbers of 64 bits, which begin again at 1
abbrev pub next_number : ℕ → ℕ
next_number n = if nat_eq n 18446744073709551615 then 1 else n + 1

-- where the search begins if it has to begin behind this number, too
abbrev pub start_behind : ℕ → Option ℕ → ℕ
start_behind start None = start
start_behind start (Some n) = if nat_le start n then next_number n else start

-- where the search for an unused identifier begins once this one is in use
abbrev pub start_after : ℕ → List ℕ → ℕ
start_after start identifier = start_behind start (number_in identifier)

-- an identifier that was found by this many tries: it isn't below the number at which the search
-- began, unless the search came past the last number of 64 bits
abbrev pub IsFoundFrom : ℕ → ℕ → List ℕ → Type 0
IsFoundFrom start tries identifier = start + tries < 2 ^ 64 → start ≤ number_of identifier
