-- Words that are parted by one space each.
use Rattle.std.proofs.Common.{◌≡◌, ◌<◌, ◌==◌, ℕ, List, [], ◌∷◌, ◌++◌, length, true, false, Bool}
use Rattle.std.proofs.Common.{not}
use Rattle.std.proofs.Common.{arith, refl, sym, ap, ◌∙◌, append_assoc, append-nil, nat_lt}
use Rattle.std.proofs.lemmas.Bool.{and_parts}
use Rattle.std.specs.List.{list_all}
use Rattle.script.specs.Words.{words_of}
use Rattle.recording.proofs.LineWords.{Without, without_append, words_front, words_last}

-- what a word is: some octets, none of them a space or the end of a line
pub record IsWord (word : List ℕ) : Type 0 where
  pub no_space : Without 32 word
  pub no_end : Without 10 word
  pub some : 0 < length word

abbrev pub AreWords : List (List ℕ) → Type 0
AreWords [] = Unit {0}
AreWords (word ∷ words) = IsWord word × AreWords words

pub words_append : (xs ys : List (List ℕ)) → AreWords xs → AreWords ys → AreWords (xs ++ ys)
words_append [] ys h k = k
words_append (x ∷ xs) ys h k = (h.0, words_append xs ys h.1 k)

-- a space before each word
abbrev pub spaced : List (List ℕ) → List ℕ
spaced [] = []
spaced (word ∷ words) = 32 ∷ (word ++ spaced words)

pub spaced_append : (xs ys : List (List ℕ)) → spaced (xs ++ ys) ≡ spaced xs ++ spaced ys
spaced_append [] ys = refl
spaced_append (x ∷ xs) ys =
    ap (λ (t : List ℕ). 32 ∷ (x ++ t)) (spaced_append xs ys)
    ∙ ap (λ (t : List ℕ). 32 ∷ t) (sym (append_assoc x (spaced xs) (spaced ys)))

pub words_spaced : (word : List ℕ) (words : List (List ℕ)) → IsWord word → AreWords words
    → words_of (word ++ spaced words) ≡ word ∷ words
words_spaced word [] h hs =
    ap words_of (append-nil word) ∙ words_last word h.no_space h.some
words_spaced word (next ∷ words) h hs =
    words_front word (next ++ spaced words) h.no_space h.some
    ∙ ap (λ (ws : List (List ℕ)). word ∷ ws) (words_spaced next words hs.0 hs.1)

pub words_behind : (word : List ℕ) (words : List (List ℕ)) (rest : List ℕ) → IsWord word
    → AreWords words
    → words_of ((word ++ spaced words) ++ 32 ∷ rest) ≡ (word ∷ words) ++ words_of rest
words_behind word [] rest h hs =
    ap (λ (t : List ℕ). words_of (t ++ 32 ∷ rest)) (append-nil word)
    ∙ words_front word rest h.no_space h.some
words_behind word (next ∷ words) rest h hs =
    ap words_of (append_assoc word (32 ∷ (next ++ spaced words)) (32 ∷ rest))
    ∙ words_front word ((next ++ spaced words) ++ 32 ∷ rest) h.no_space h.some
    ∙ ap (λ (ws : List (List ℕ)). word ∷ ws) (words_behind next words rest hs.0 hs.1)

pub spaced_without : (words : List (List ℕ)) → AreWords words → Without 10 (spaced words)
spaced_without [] hs = tt
spaced_without (word ∷ words) hs =
    (refl, without_append 10 word (spaced words) hs.0.no_end (spaced_without words hs.1))

-- a word that is written in the sources
no : (b : Bool) → not b ≡ true → b ≡ false
no true e = absurd (cc e)
no false e = refl

pub plain : (mark : ℕ) (text : List ℕ) → list_all (λ c. not (c == mark)) text ≡ true
    → Without mark text
plain mark [] e = tt
plain mark (c ∷ cs) e =
    let both = and_parts (not (c == mark)) (list_all (λ c. not (c == mark)) cs) e in
    (no (c == mark) both.0, plain mark cs both.1)

some_octets : (text : List ℕ) → nat_lt 0 (length text) ≡ true → 0 < length text
some_octets [] e = absurd (cc e)
some_octets (c ∷ cs) e = omega arith

pub plain_word : (text : List ℕ) → list_all (λ c. not (c == 32)) text ≡ true
    → list_all (λ c. not (c == 10)) text ≡ true → nat_lt 0 (length text) ≡ true → IsWord text
plain_word text no_space no_end some = record {
  no_space = plain 32 text no_space;
  no_end = plain 10 text no_end;
  some = some_octets text some;
}
