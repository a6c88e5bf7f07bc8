-- Names in UTF-8.
use Rattle.std.proofs.Common.{◌≡◌, ℕ, ◌+◌, ◌<◌, ◌≤◌, inl, inr, Bool, true, false, leb, Option, Some}
use Rattle.std.proofs.Common.{None, List, length, take, get_or, refl, sym, ap, ◌∙◌, rules, nat_lt}
use Rattle.std.proofs.Common.{set, length-set, get_or-set_same}
use Rattle.std.proofs.lemmas.Bool.{cases_lt}
use Rattle.std.proofs.lemmas.Bool.Decides.{nat_tests}
use Rattle.std.proofs.lemmas.List.{take_more, take-set}
use Rattle.std.proofs.lemmas.List.Folds.{list_all_more}
use Rattle.std.proofs.lemmas.Str.{IsUtf8-from_is_utf8, is_utf8-from_IsUtf8}
use Rattle.std.specs.List.{list_all}
use Rattle.std.specs.Option.{SomeIff}
use Rattle.std.specs.Str.{chars, is_utf8, IsUtf8}
use Rattle.ras_module.specs.Texts.{IsText}
use Rattle.value_texts.specs.Texts.{name_of}
use Rattle.value_texts.proofs.FourTests.{none_at_first, none_at_second, none_at_third}
use Rattle.value_texts.proofs.FourTests.{none_at_last, some_at_all, not_all}

abbrev pub is_small : ℕ → Bool
is_small c = nat_lt c 65536

pub no_utf8 : (word : List ℕ) → ¬ (IsUtf8 word) → None ≡ name_of word
no_utf8 word isnt =
    let from : (b : Bool) → is_utf8 word ≡ b
    → is_utf8 word ≡ false = λ b e. elim b as (λ b. is_utf8 word ≡ b → is_utf8 word ≡ false) [
      | true ↦ λ e. absurd (isnt (IsUtf8-from_is_utf8 word e))
      | false ↦ λ e. e
    ] e in
    none_at_first _ (list_all is_small (chars word)) (leb 1 (length (chars word)))
    (leb (length (chars word)) 128) (chars word) (from (is_utf8 word) refl)

pub large_character : (word : List ℕ) (i : ℕ) → i < length (chars word)
    → 65535 < get_or (chars word) i 0 → None ≡ name_of word
large_character word i below large =
    none_at_second (is_utf8 word) _ (leb 1 (length (chars word)))
    (leb (length (chars word)) 128) (chars word)
    (not_all is_small (chars word) i below (search (rules, nat_tests)))

pub too_many : (word : List ℕ) → 128 < length (chars word) → None ≡ name_of word
too_many word many =
    none_at_last (is_utf8 word) (list_all is_small (chars word)) (leb 1 (length (chars word))) _
    (chars word) (search (rules, nat_tests))

no_characters : (word : List ℕ) → length (chars word) < 1 → None ≡ name_of word
no_characters word none =
    none_at_third (is_utf8 word) (list_all is_small (chars word)) _ (leb (length (chars word)) 128)
    (chars word) (search (rules, nat_tests))

-- the answer for a text of small characters
pub name_read : (word : List ℕ) (answer : Option (List ℕ)) → IsUtf8 word
    → list_all is_small (chars word) ≡ true
    → SomeIff answer (IsText 128 (chars word)) (chars word) → answer ≡ name_of word
name_read word (Some name) utf8 small (text, is) =
    ap Some is ∙ some_at_all (is_utf8 word) (list_all is_small (chars word))
    (leb 1 (length (chars word))) (leb (length (chars word)) 128) (chars word)
    (is_utf8-from_IsUtf8 word utf8) small
    (search (rules, nat_tests, text.some)) (search (rules, nat_tests, text.few))
name_read word None utf8 small isnt = elim (cases_lt (length (chars word)) 1) [
  | inl none ↦ no_characters word none
  | inr some ↦ elim (cases_lt 128 (length (chars word))) [
    | inl many ↦ too_many word many
    | inr few ↦ absurd (isnt (record { some = some; few = few }))
  ]
]

-- one more character
pub units_more : (units name : List ℕ) (n unit : ℕ) → n < length units → n < length name
    → unit ≡ get_or name n 0
    → take n units ≡ take n name → take (n + 1) (set units n unit) ≡ take (n + 1) name
units_more units name n unit room below is so_far =
    take_more (set units n unit) n 0 (rw length-set room)
    ∙ (rw (get_or-set_same, take-set, is, so_far) (sym (take_more name n 0 below)))

pub small_more : (name : List ℕ) (n : ℕ) → n < length name → get_or name n 0 ≤ 65535
    → list_all is_small (take n name) ≡ true → list_all is_small (take (n + 1) name) ≡ true
small_more name n below small so_far =
    list_all_more is_small name n 0 below ∙ rw so_far (search (rules, nat_tests))
