-- Texts are written a part at a time.
use Rattle.std.proofs.Common.{◌≡◌, ℕ, ◌+◌, ◌<◌, ◌/◌, ◌%◌, List, [], ◌∷◌, ◌++◌, length, take, get_or}
use Rattle.std.proofs.Common.{slice_index, refl, sym, ap, ◌∙◌, append_assoc, append-nil, add-zero}
use Rattle.std.proofs.Common.{arith}
use Rattle.std.proofs.lemmas.List.{take_more, map_more}
use Rattle.std.specs.Prelude.{encode_utf8, encode_utf8_all, map}
use Rattle.hex.specs.Hex.{encode_upper, encode_with, upper_digits}
use Rattle.script.specs.Prints.{character_of, identifier_text, lines_from}

encode_utf8_all-append : (xs ys : List ℕ)
    → encode_utf8_all (xs ++ ys) ≡ encode_utf8_all xs ++ encode_utf8_all ys
encode_utf8_all-append [] ys = refl
encode_utf8_all-append (x ∷ xs) ys =
    ap (λ (t : List ℕ). encode_utf8 x ++ t) (encode_utf8_all-append xs ys)
    ∙ sym (append_assoc (encode_utf8 x) (encode_utf8_all xs) (encode_utf8_all ys))

pub identifier_more : (id : List ℕ) (i : ℕ) → i < length id
    → identifier_text (take (i + 1) id)
    ≡ identifier_text (take i id) ++ encode_utf8 (character_of (get_or id i 0))
identifier_more id i below =
    ap encode_utf8_all (map_more character_of id i 0 below)
    ∙ encode_utf8_all-append (map character_of (take i id)) (character_of (get_or id i 0) ∷ [])
    ∙ ap (λ (t : List ℕ). identifier_text (take i id) ++ t)
    (append-nil (encode_utf8 (character_of (get_or id i 0))))

encode_with-append : (digits xs ys : List ℕ)
    → encode_with digits (xs ++ ys) ≡ encode_with digits xs ++ encode_with digits ys
unfolding encode_with
encode_with-append digits [] ys = refl
encode_with-append digits (x ∷ xs) ys =
    ap (λ (rest : List ℕ). slice_index digits (x / 16) ∷ slice_index digits (x % 16) ∷ rest)
    (encode_with-append digits xs ys)

pub encode_upper-append : (xs ys : List ℕ)
    → encode_upper (xs ++ ys) ≡ encode_upper xs ++ encode_upper ys
encode_upper-append xs ys = encode_with-append upper_digits xs ys

encode_with-one : (digits : List ℕ) (x : ℕ)
    → encode_with digits (x ∷ []) ≡ slice_index digits (x / 16) ∷ slice_index digits (x % 16) ∷ []
unfolding encode_with
encode_with-one digits x = refl

pub encode_with_more : (digits xs : List ℕ) (i : ℕ) → i < length xs
    → encode_with digits (take (i + 1) xs) ≡ encode_with digits (take i xs)
    ++ (slice_index digits (get_or xs i 0 / 16) ∷ slice_index digits (get_or xs i 0 % 16) ∷ [])
encode_with_more digits xs i below =
    ap (encode_with digits) (take_more xs i 0 below)
    ∙ encode_with-append digits (take i xs) (get_or xs i 0 ∷ [])
    ∙ ap (λ (last : List ℕ). encode_with digits (take i xs) ++ last)
    (encode_with-one digits (get_or xs i 0))

lines-append : {A : Type 0} (line : ℕ → A → List ℕ) (n : ℕ) (xs ys : List A)
    → lines_from line n (xs ++ ys) ≡ lines_from line n xs ++ lines_from line (n + length xs) ys
lines-append line n [] ys = ap (λ (m : ℕ). lines_from line m ys) (sym (add-zero n))
lines-append line n (x ∷ xs) ys =
    ap (λ (t : List ℕ). line n x ++ t)
    (lines-append line (n + 1) xs ys
    ∙ ap (λ (m : ℕ). lines_from line (n + 1) xs ++ lines_from line m ys) (omega arith))
    ∙ sym (append_assoc (line n x) (lines_from line (n + 1) xs)
    (lines_from line (n + length (x ∷ xs)) ys))

pub lines_push : {A : Type 0} (line : ℕ → A → List ℕ) (xs : List A) (x : A)
    → lines_from line 1 (xs ++ x ∷ []) ≡ lines_from line 1 xs ++ line (length xs + 1) x
lines_push line xs x =
    let number : 1 + length xs ≡ length xs + 1 = omega arith in
    lines-append line 1 xs (x ∷ [])
    ∙ ap (λ (m : ℕ). lines_from line 1 xs ++ (line m x ++ [])) number
    ∙ ap (λ (t : List ℕ). lines_from line 1 xs ++ t) (append-nil (line (length xs + 1) x))

pub refusal_flat : (number words fault end : List ℕ)
    → number ++ (words ++ (fault ++ end)) ≡ number ++ words ++ fault ++ end
refusal_flat number words fault end = sym (simp append_assoc)

pub address_flat : (a b c d port rest : List ℕ) (dot colon : ℕ)
    → a ++ (dot ∷ (b ++ (dot ∷ (c ++ (dot ∷ (d ++ (colon ∷ (port ++ rest))))))))
    ≡ a ++ (dot ∷ []) ++ b ++ (dot ∷ []) ++ c ++ (dot ∷ []) ++ d ++ (colon ∷ []) ++ port ++ rest
address_flat a b c d port rest dot colon = sym (simp append_assoc)
