-- Pairs of digits are read one after the other.
use Rattle.std.proofs.Common.{◌≡◌, ℕ, ◌+◌, ◌*◌, ◌<◌, Option, Some, None, Err}
use Rattle.std.proofs.Common.{Ok, unwrap_or, refl, arith}
use Rattle.hex.specs.Hex.{hex_digit_value, digit_or_error, pair_value, ◌>>=◌}
use Rattle.hex.specs.declared.error.FromHexError.{FromHexError}
use Rattle.hex.specs.declared.error.FromHexError.TheVariants.{InvalidHexCharacter}

-- the value of a digit, and 16 of what is none
abbrev pub value_of : ℕ → ℕ
value_of c = unwrap_or (hex_digit_value c) 16

good_values : (x y : Option ℕ) (a b i : ℕ) → unwrap_or x 16 < 16 → unwrap_or y 16 < 16
    → (digit_or_error a i x >>= (λ h. digit_or_error b (i + 1) y >>= (λ l. Ok (h * 16 + l))))
    ≡ Ok (unwrap_or x 16 * 16 + unwrap_or y 16)
good_values (Some x) (Some y) a b i one two = refl
good_values (Some x) None a b i one two = absurd (omega (arith, two))
good_values None y a b i one two = absurd (omega (arith, one))

pub good_pair : (a b i : ℕ) → value_of a < 16 → value_of b < 16
    → pair_value a b i ≡ Ok (value_of a * 16 + value_of b)
good_pair a b i one two = good_values (hex_digit_value a) (hex_digit_value b) a b i one two

small : (c v : ℕ) → hex_digit_value c ≡ Some v → v < 16
small c v h = grind (arith)

bad_values : (x y : Option ℕ) (a b i : ℕ) → ((v : ℕ) → x ≡ Some v → v < 16)
    → ((v : ℕ) → y ≡ Some v → v < 16) → ¬ ((unwrap_or x 16 < 16) × (unwrap_or y 16 < 16))
    → (e : FromHexError)
    × ((digit_or_error a i x >>= (λ h. digit_or_error b (i + 1) y >>= (λ l. Ok (h * 16 + l))))
    ≡ Err e)
bad_values (Some x) (Some y) a b i one two bad = absurd (bad (one x refl, two y refl))
bad_values (Some x) None a b i one two bad = (InvalidHexCharacter b (i + 1), refl)
bad_values None y a b i one two bad = (InvalidHexCharacter a i, refl)

pub bad_pair : (a b i : ℕ) → ¬ ((value_of a < 16) × (value_of b < 16))
    → (e : FromHexError) × (pair_value a b i ≡ Err e)
bad_pair a b i bad =
    bad_values (hex_digit_value a) (hex_digit_value b) a b i (small a) (small b) bad
