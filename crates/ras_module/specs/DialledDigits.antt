-- The characters that may be dialled (H.225.0, AliasAddress, dialledDigits: FROM "0123456789#*,").
use Rattle.std.specs.Prelude.{ℕ, List, Bool, ◌&&◌, ◌||◌, nat_eq, nat_le, IsTrue}
use Rattle.std.specs.List.{list_all}

-- a digit, `#`, `*` or a comma
abbrev pub is_dialled : ℕ → Bool
is_dialled c = nat_le 48 c && nat_le c 57 || nat_eq c 35 || nat_eq c 42 || nat_eq c 44

abbrev pub AreDialled : List ℕ → Type 0
AreDialled text = IsTrue (list_all is_dialled text)
