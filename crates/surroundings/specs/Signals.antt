-- Signals that wait for the program, by what the system tells of it, line by line.
use Rattle.std.specs.Prelude.{ℕ, ◌≡◌, ◌≢◌, ◌<◌, ◌≤◌, ◌^◌, ◌+◌, ◌⊎◌, List, [], ◌∷◌}
use Rattle.std.specs.Prelude.{Option, Some, None}
use Rattle.std.specs.Prelude.{bit_and, codes, drop, if◌then◌else◌, nat_eq, IsSomeAnd}
use Rattle.std.specs.List.{starts_with}
use Rattle.std.specs.Str.{trim}
use Rattle.std.specs.Str.Lines.{lines}
use Rattle.std.specs.Str.Parse.{digits_value, without_leading_plus, IsNumeral}

-- the signals that wait for the program as a whole, and for none of its threads alone, as digits to
-- the base 16, if this is the line that tells them
abbrev pub waiting_in : List ℕ → Option (List ℕ)
waiting_in line =
    if starts_with nat_eq line (codes "ShdPnd:") then Some (trim (drop 7 line)) else None

-- these digits, or else the others
abbrev pub first_of : Option (List ℕ) → Option (List ℕ) → Option (List ℕ)
first_of None others = others
first_of (Some digits) others = Some digits

-- the digits of the first of these lines that tells them
abbrev pub first_waiting : List (List ℕ) → Option (List ℕ)
first_waiting [] = None
first_waiting (line ∷ lines) = first_of (waiting_in line) (first_waiting lines)

-- the digits of the first line of a text that tells them
abbrev pub waiting_of : List ℕ → Option (List ℕ)
waiting_of status = first_waiting (lines status)

-- a set of signals has SIGINT, number 2, or SIGTERM, number 15; its lowest bit is number 1
pub record AsksToEnd (digits : List ℕ) : Type 0 where
  pub number : IsNumeral 16 (without_leading_plus digits)
  pub small : digits_value 16 (without_leading_plus digits) < 2 ^ 64
  pub asking : bit_and (digits_value 16 (without_leading_plus digits)) (2 ^ 1 + 2 ^ 14) ≢ 0

-- the program is asked to end
abbrev pub IsAsked : List ℕ → Type 0
IsAsked status = IsSomeAnd (waiting_of status) AsksToEnd

-- the system told of the program that a signal asks it to end
abbrev pub HasAsked : (Option (List ℕ) → Type 0) → Type 0
HasAsked told = (status : List ℕ) × told (Some status) × IsAsked status

-- the system told no such thing of the program when it was looked for
abbrev pub HasNotAsked : (Option (List ℕ) → Type 0) → Type 0
HasNotAsked told = (status : Option (List ℕ)) × told status × (IsSomeAnd status IsAsked → ⊥)

-- the next look is due at once, or at most 100 milliseconds behind a moment at which one was due
abbrev pub IsNextLook : (ℕ → Type 0) → ℕ → Type 0
IsNextLook passed next = (next ≡ 0) ⊎ ((before : ℕ) × passed before × (next ≤ before + 100))

-- one moment was less than 100 milliseconds behind another
abbrev pub IsPause : (ℕ → Type 0) → Type 0
IsPause passed =
    (before : ℕ) × (now : ℕ) × passed before × passed now × (now < before + 100)
