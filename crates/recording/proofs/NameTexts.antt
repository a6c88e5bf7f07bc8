-- The name of a zone, read as it was written.
use Rattle.std.proofs.Common.{◌≡◌, ◌<◌, ◌≤◌, ◌+◌, ◌/◌, ◌==◌, ◌&&◌, ℕ, List, [], ◌∷◌, ◌++◌, length}
use Rattle.std.proofs.Common.{Bool, true, false, cond, not, Some, map, leb, ltb, nat_lt, nat_le}
use Rattle.std.proofs.Common.{arith, refl, sym, ap, ◌∙◌, subst}
use Rattle.std.proofs.lemmas.Bool.{and_parts}
use Rattle.std.proofs.lemmas.Bool.Decides.{nat_tests}
use Rattle.std.proofs.lemmas.Str.{chars-encodes, is_utf8-from_IsUtf8}
use Rattle.std.proofs.Math.Utf8.{encode, encodes, next, scalar, scalars}
use Rattle.std.specs.Int.{is_in_range}
use Rattle.std.specs.List.{AllByRecursion, list_all}
use Rattle.std.specs.Str.{chars, is_utf8}
use Rattle.ras_writing.specs.Properties.{IsName}
use Rattle.value_texts.specs.Texts.{name_of}
use Rattle.value_texts.proofs.FourTests.{some_at_all}
use Rattle.script.specs.Prints.{character_of, identifier_text}
use Rattle.recording.specs.Zones.{is_one_word, is_word_character}
use Rattle.recording.proofs.FourNumbers.{IsTold}
use Rattle.recording.proofs.LineWords.{Without, without_append}

-- ---- one character

no : (b : Bool) → not b ≡ true → b ≡ false
no true e = absurd (cc e)
no false e = refl

-- what the characters of one word are
pub record InWord (c : ℕ) : Type 0 where
  pub no_space : (c == 32) ≡ false
  pub no_end : (c == 10) ≡ false
  pub no_half : is_in_range 0xD800 0xDFFF c ≡ false

in_word : (c : ℕ) → is_word_character c ≡ true → InWord c
in_word c e =
    let both = and_parts (not (c == 32) && not (c == 10)) (not (is_in_range 0xD800 0xDFFF c)) e in
    let first = and_parts (not (c == 32)) (not (c == 10)) both.0 in
    record {
      no_space = no (c == 32) first.0;
      no_end = no (c == 10) first.1;
      no_half = no (is_in_range 0xD800 0xDFFF c) both.1;
    }

is_scalar : (c : ℕ) → c < 65536 → is_in_range 0xD800 0xDFFF c ≡ false → scalar c ≡ true
is_scalar c small outside = grind (arith, nat_tests, outside)

same_character : (c : ℕ) → is_in_range 0xD800 0xDFFF c ≡ false → character_of c ≡ c
same_character c outside = rw outside refl

module _ (mark c : ℕ) (small : mark < 128) (other : (c == mark) ≡ false) where
  high : (n : ℕ) → ((128 + n) == mark) ≡ false
  high n = grind (arith, nat_tests)

  higher : (n k : ℕ) → 128 ≤ k → ((k + n) == mark) ≡ false
  higher n k far = grind (arith, nat_tests)

  octets_without : (x y z : Bool) → Without mark
      (cond x (c ∷ []) (cond y ((192 + c / 64) ∷ next c ∷ [])
      (cond z ((224 + c / 4096) ∷ next (c / 64) ∷ next c ∷ [])
      ((240 + c / 262144) ∷ next (c / 4096) ∷ next (c / 64) ∷ next c ∷ []))))
  octets_without true y z = (other, tt)
  octets_without false true z = (higher (c / 64) 192 (omega arith), (higher _ 128 (omega arith), tt))
  octets_without false false true = (
    higher (c / 4096) 224 (omega arith),
    (higher _ 128 (omega arith), (higher _ 128 (omega arith), tt)),
  )
  octets_without false false false = (
    higher (c / 262144) 240 (omega arith),
    (higher _ 128 (omega arith), (higher _ 128 (omega arith), (higher _ 128 (omega arith), tt))),
  )

  character_without : Without mark (encode c)
  unfolding encode
  character_without = octets_without (ltb c 128) (ltb c 2048) (ltb c 65536)

character_some : (c : ℕ) → 0 < length (encode c)
unfolding encode
character_some c = by (ltb c 128) (ltb c 2048) (ltb c 65536)
  where
    by : (x y z : Bool) → 0 < length
        (cond x (c ∷ []) (cond y ((192 + c / 64) ∷ next c ∷ [])
        (cond z ((224 + c / 4096) ∷ next (c / 64) ∷ next c ∷ [])
        ((240 + c / 262144) ∷ next (c / 4096) ∷ next (c / 64) ∷ next c ∷ []))))
    by true y z = omega arith
    by false true z = omega arith
    by false false true = omega arith
    by false false false = omega arith

-- ---- all of them

-- each character is in one word, and has 16 bits
abbrev AreInWord : List ℕ → Type 0
AreInWord id = AllByRecursion InWord id × AllByRecursion (λ c. c < 65536) id

in_one_word : (id : List ℕ) → is_one_word id ≡ true → AllByRecursion InWord id
in_one_word [] e = tt
in_one_word (c ∷ cs) e =
    let both = and_parts (is_word_character c) (is_one_word cs) e in
    (in_word c both.0, in_one_word cs both.1)

are_scalars : (id : List ℕ) → AreInWord id → scalars id ≡ true
are_scalars [] h = refl
are_scalars (c ∷ cs) h =
    rw (is_scalar c h.1.0 h.0.0.no_half, are_scalars cs (h.0.1, h.1.1)) refl

same_characters : (id : List ℕ) → AllByRecursion InWord id → map character_of id ≡ id
same_characters [] h = refl
same_characters (c ∷ cs) h =
    λ i. same_character c h.0.no_half i ∷ same_characters cs h.1 i

are_small : (id : List ℕ) → AllByRecursion (λ c. c < 65536) id
    → list_all (λ c. nat_lt c 65536) id ≡ true
are_small [] h = refl
are_small (c ∷ cs) h =
    let one : nat_lt c 65536 ≡ true = grind (arith, nat_tests, h.0) in
    rw (one, are_small cs h.1) refl

all_without : (mark : ℕ) → mark < 128 → ((c : ℕ) → InWord c → (c == mark) ≡ false)
    → (id : List ℕ) → AllByRecursion InWord id → Without mark (encodes id)
all_without mark small other [] h = tt
all_without mark small other (c ∷ cs) h =
    without_append mark (encode c) (encodes cs) (character_without mark c small (other c h.0))
    (all_without mark small other cs h.1)

some_front : (xs ys : List ℕ) → 0 < length xs → 0 < length (xs ++ ys)
some_front [] ys some = absurd (omega arith)
some_front (x ∷ xs) ys some = omega arith

all_some : (id : List ℕ) → 1 ≤ length id → 0 < length (encodes id)
all_some [] some = absurd (omega arith)
all_some (c ∷ cs) some = some_front (encode c) (encodes cs) (character_some c)

read_back : (id : List ℕ) → AreInWord id → IsName id → name_of (encodes id) ≡ Some id
read_back id h is =
    let back : chars (encodes id) ≡ id = chars-encodes id (are_scalars id h) in
    let utf8 = is_utf8-from_IsUtf8 (encodes id) (id, (are_scalars id h, refl)) in
    let small : list_all (λ c. nat_lt c 65536) (chars (encodes id)) ≡ true =
    ap (list_all (λ c. nat_lt c 65536)) back ∙ are_small id h.1 in
    let some : nat_le 1 (length (chars (encodes id))) ≡ true =
    ap (λ (t : List ℕ). nat_le 1 (length t)) back ∙ grind (arith, nat_tests, is.some) in
    let few : nat_le (length (chars (encodes id))) 128 ≡ true =
    ap (λ (t : List ℕ). nat_le (length t) 128) back ∙ grind (arith, nat_tests, is.few) in
    sym (some_at_all (is_utf8 (encodes id)) (list_all (λ c. nat_lt c 65536) (chars (encodes id)))
    (nat_le 1 (length (chars (encodes id)))) (nat_le (length (chars (encodes id))) 128)
    (chars (encodes id)) utf8 small some few)
    ∙ ap Some back

-- the text of a name that is one word
pub name_is_told : (id : List ℕ) → is_one_word id ≡ true → IsName id
    → IsTold id name_of (identifier_text id)
name_is_told id word is =
    let h : AreInWord id = (in_one_word id word, is.fit) in
    subst (λ (cs : List ℕ). IsTold id name_of (encodes cs)) (sym (same_characters id h.0))
    (record {
      back = read_back id h is;
      no_space = all_without 32 (omega arith) (λ c at. at.no_space) id h.0;
      no_end = all_without 10 (omega arith) (λ c at. at.no_end) id h.0;
      some = all_some id is.some;
    })
