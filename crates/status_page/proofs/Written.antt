-- Texts are written a part at a time.
use lib.Utf8.{encode}
use Rattle.std.proofs.Common.{◌≡◌, arith, ℕ, ◌+◌, ◌<◌, ◌≤◌, List, [], ◌∷◌, ◌++◌, length, drop, get_or, map, encode_utf8, encode_utf8_all, sym, ap, ◌∙◌, append_assoc}
use Rattle.std.proofs.lemmas.List.{append-nil, drop_all, drop_more, map-append}
use Rattle.std.proofs.lemmas.Str.{encode_ascii, encodes-append}
use Rattle.std.specs.List.{concat, flat_map, fold}
use Rattle.status_page.specs.Texts.{listed, numbered}

-- parts that are written one after another stand there joined
pub glued : (start : List ℕ) (parts : List (List ℕ)) → fold (λ text part. text ++ part) start parts ≡ start ++ concat parts
glued start [] = sym (append-nil start)
glued start (part ∷ parts) = glued (start ++ part) parts ∙ append_assoc start part (concat parts)

-- a comma is text
pub comma : encode 44 ++ [] ≡ 44 ∷ []
comma = ap (λ t. t ++ []) (encode_ascii 44 (omega arith))

-- and so is one with a space behind it
pub comma_space : encode 44 ++ (encode 32 ++ []) ≡ 44 ∷ 32 ∷ []
comma_space = ap (λ t. t ++ (encode 32 ++ [])) (encode_ascii 44 (omega arith)) ∙ ap (λ t. 44 ∷ (t ++ [])) (encode_ascii 32 (omega arith))

-- the next of the characters that are written one by one
joined : (f : ℕ → ℕ) (cs : List ℕ) (c : ℕ) → encode_utf8_all (map f cs) ++ encode_utf8 (f c) ≡ encode_utf8_all (map f (cs ++ c ∷ []))
joined f cs c =
    ap (λ t. encode_utf8_all (map f cs) ++ t) (sym (append-nil (encode_utf8 (f c))))
    ∙ (sym (encodes-append (map f cs) (f c ∷ [])) ∙ ap encode_utf8_all (sym (map-append f cs (c ∷ []))))

pub next_character : (f : ℕ → ℕ) (old now new cs : List ℕ) (c : ℕ) → now ≡ old ++ encode_utf8_all (map f cs)
    → new ≡ now ++ encode_utf8 (f c) → new ≡ old ++ encode_utf8_all (map f (cs ++ c ∷ []))
next_character f old now new cs c before is =
    is
    ∙ (ap (λ t. t ++ encode_utf8 (f c)) before
    ∙ (append_assoc old (encode_utf8_all (map f cs)) (encode_utf8 (f c)) ∙ ap (λ t. old ++ t) (joined f cs c)))

-- what is left of a list, one step on
pub front : {A : Type 0} (xs : List A) (i : ℕ) (x : A) → i < length xs → x ≡ get_or xs i x
    → drop i xs ≡ x ∷ drop (i + 1) xs
front xs i x below is = drop_more xs i x below ∙ ap (λ y. y ∷ drop (i + 1) xs) (sym is)

-- the next of a list is written
pub next_listed : {A : Type 0} (mark : List ℕ) (text : A → List ℕ) (before all old new : List ℕ) (xs : List A) (i : ℕ) (x : A)
    → i < length xs → x ≡ get_or xs i x → new ≡ old ++ (before ++ text x)
    → old ++ listed before mark text (drop i xs) ≡ all
    → new ++ listed mark mark text (drop (i + 1) xs) ≡ all
next_listed mark text before all old new xs i x below is written left =
    ap (λ t. t ++ listed mark mark text (drop (i + 1) xs)) written
    ∙ (append_assoc old (before ++ text x) (listed mark mark text (drop (i + 1) xs))
    ∙ (ap (λ rest. old ++ listed before mark text rest) (sym (front xs i x below is)) ∙ left))

pub next_listed_at : {A : Type 0} (mark : List ℕ) (text : A → List ℕ) (before all old new : List ℕ) (xs : List A) (i : ℕ) (d : A)
    → i < length xs → new ≡ old ++ (before ++ text (get_or xs i d))
    → old ++ listed before mark text (drop i xs) ≡ all
    → new ++ listed mark mark text (drop (i + 1) xs) ≡ all
next_listed_at mark text before all old new xs i d below written left =
    ap (λ t. t ++ listed mark mark text (drop (i + 1) xs)) written
    ∙ (append_assoc old (before ++ text (get_or xs i d)) (listed mark mark text (drop (i + 1) xs))
    ∙ (ap (λ rest. old ++ listed before mark text rest) (sym (drop_more xs i d below)) ∙ left))

-- all of a list is written
pub all_listed : {A : Type 0} (mark : List ℕ) (text : A → List ℕ) (before all now : List ℕ) (xs : List A) (i : ℕ)
    → length xs ≤ i → now ++ listed before mark text (drop i xs) ≡ all → now ≡ all
all_listed mark text before all now xs i over left =
    sym (append-nil now) ∙ (ap (λ rest. now ++ listed before mark text rest) (sym (drop_all i xs over)) ∙ left)

-- the same without marks
pub next_of_each : {A : Type 0} (text : A → List ℕ) (all old new : List ℕ) (xs : List A) (i : ℕ) (x : A)
    → i < length xs → x ≡ get_or xs i x → new ≡ old ++ text x
    → old ++ flat_map text (drop i xs) ≡ all → new ++ flat_map text (drop (i + 1) xs) ≡ all
next_of_each text all old new xs i x below is written left =
    ap (λ t. t ++ flat_map text (drop (i + 1) xs)) written
    ∙ (append_assoc old (text x) (flat_map text (drop (i + 1) xs))
    ∙ (ap (λ rest. old ++ flat_map text rest) (sym (front xs i x below is)) ∙ left))

pub all_of_each : {A : Type 0} (text : A → List ℕ) (all now : List ℕ) (xs : List A) (i : ℕ)
    → length xs ≤ i → now ++ flat_map text (drop i xs) ≡ all → now ≡ all
all_of_each text all now xs i over left =
    sym (append-nil now) ∙ (ap (λ rest. now ++ flat_map text rest) (sym (drop_all i xs over)) ∙ left)

-- the same with places
pub next_numbered : {A : Type 0} (text : ℕ → A → List ℕ) (all old new : List ℕ) (xs : List A) (i : ℕ) (x : A)
    → i < length xs → x ≡ get_or xs i x → new ≡ old ++ text i x
    → old ++ numbered text i (drop i xs) ≡ all → new ++ numbered text (i + 1) (drop (i + 1) xs) ≡ all
next_numbered text all old new xs i x below is written left =
    ap (λ t. t ++ numbered text (i + 1) (drop (i + 1) xs)) written
    ∙ (append_assoc old (text i x) (numbered text (i + 1) (drop (i + 1) xs))
    ∙ (ap (λ rest. old ++ numbered text i rest) (sym (front xs i x below is)) ∙ left))

pub all_numbered : {A : Type 0} (text : ℕ → A → List ℕ) (all now : List ℕ) (xs : List A) (i : ℕ)
    → length xs ≤ i → now ++ numbered text i (drop i xs) ≡ all → now ≡ all
all_numbered text all now xs i over left =
    sym (append-nil now) ∙ (ap (λ rest. now ++ numbered text i rest) (sym (drop_all i xs over)) ∙ left)
