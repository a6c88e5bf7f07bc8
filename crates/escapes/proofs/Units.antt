-- The first character of a text of UTF-16.
use Rattle.std.proofs.Common.{◌≡◌, ℕ, ◌≤◌, ◌-◌, Bool, true, false, cond, ◌&&◌, List, [], ◌∷◌, length}
use Rattle.std.proofs.Common.{get_or, drop, take, map, refl, arith, Some, ap}
use Rattle.std.proofs.Common.{length-drop}
use Rattle.std.proofs.lemmas.List.{take_all}
use Rattle.std.specs.Option.{unwrap_or}
use Rattle.std.specs.Char.Utf16.{is_high_surrogate, is_low_surrogate, lone_unit_char}
use Rattle.std.specs.Char.Utf16.{surrogate_pair_char, utf16_chars, utf16_lossy_chars}

-- no unit, no character
pub none_left : (us : List ℕ) → length us ≡ 0 → utf16_lossy_chars us ≡ []
unfolding utf16_chars
none_left [] h = refl
none_left (u ∷ us) h = absurd (omega (arith, h))

-- what comes first where the first two units are a pair, and where they aren't
pub first_two : (u v : ℕ) (us : List ℕ) (is : Bool) → (is_high_surrogate u && is_low_surrogate v) ≡ is
    → utf16_lossy_chars (u ∷ v ∷ us) ≡ cond is (surrogate_pair_char u v ∷ utf16_lossy_chars us)
    (unwrap_or (lone_unit_char u) 0xFFFD ∷ utf16_lossy_chars (v ∷ us))
unfolding utf16_chars
first_two u v us true h = ap (λ t. map (λ o. unwrap_or o 0xFFFD)
    (cond t (Some (surrogate_pair_char u v) ∷ utf16_chars us) (lone_unit_char u ∷ utf16_chars (v ∷ us)))) h
first_two u v us false h = ap (λ t. map (λ o. unwrap_or o 0xFFFD)
    (cond t (Some (surrogate_pair_char u v) ∷ utf16_chars us) (lone_unit_char u ∷ utf16_chars (v ∷ us)))) h

pub first_of_pair : (us : List ℕ) (d e : ℕ) → 2 ≤ length us
    → (is_high_surrogate (get_or us 0 d) && is_low_surrogate (get_or us 1 e)) ≡ true
    → utf16_lossy_chars us ≡ surrogate_pair_char (get_or us 0 d) (get_or us 1 e) ∷ utf16_lossy_chars (drop 2 us)
first_of_pair [] d e n h = absurd (omega (arith, n))
first_of_pair (u ∷ []) d e n h = absurd (omega (arith, n))
first_of_pair (u ∷ v ∷ us) d e n h = first_two u v us true h

pub first_of_one : (us : List ℕ) (d : ℕ) → length us ≡ 1
    → utf16_lossy_chars us ≡ unwrap_or (lone_unit_char (get_or us 0 d)) 0xFFFD ∷ utf16_lossy_chars (drop 1 us)
unfolding utf16_chars
first_of_one [] d n = absurd (omega (arith, n))
first_of_one (u ∷ []) d n = refl
first_of_one (u ∷ v ∷ us) d n = absurd (omega (arith, n))

pub first_of_others : (us : List ℕ) (d e : ℕ) → 2 ≤ length us
    → (is_high_surrogate (get_or us 0 d) && is_low_surrogate (get_or us 1 e)) ≡ false
    → utf16_lossy_chars us ≡ unwrap_or (lone_unit_char (get_or us 0 d)) 0xFFFD ∷ utf16_lossy_chars (drop 1 us)
first_of_others [] d e n h = absurd (omega (arith, n))
first_of_others (u ∷ []) d e n h = absurd (omega (arith, n))
first_of_others (u ∷ v ∷ us) d e n h = first_two u v us false h

-- all of what is left behind some units
pub all_behind : (n : ℕ) (us : List ℕ) → take (length us - n) (drop n us) ≡ drop n us
all_behind n us = take_all (length us - n) (drop n us) (omega (arith, length-drop n us))
