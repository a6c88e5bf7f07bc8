-- The lines of a zone, written one after the other.
use Rattle.std.proofs.Common.{◌≡◌, ◌<◌, ◌+◌, ℕ, List, [], ◌∷◌, ◌++◌, length, take, get_or, map}
use Rattle.std.proofs.Common.{◌⊎◌, inl, inr, refl, sym, ap, ◌∙◌, append_assoc, append-nil, codes}
use Rattle.std.proofs.lemmas.List.{map_more}
use Rattle.std.specs.List.{zip}
use Rattle.zone_config.specs.Keys.{all_keys}
use Rattle.recording.specs.Zones.{ZoneParts, pool_line_text, setting_text, with_ends, zone_lines}
use Rattle.recording.specs.Zones.{zone_text}

with_ends_append : (xs ys : List (List ℕ)) → with_ends (xs ++ ys) ≡ with_ends xs ++ with_ends ys
with_ends_append [] ys = refl
with_ends_append (x ∷ xs) ys =
    ap (λ (t : List ℕ). (x ++ codes "\n") ++ t) (with_ends_append xs ys)
    ∙ sym (append_assoc (x ++ codes "\n") (with_ends xs) (with_ends ys))

with_ends_push : (xs : List (List ℕ)) (x : List ℕ)
    → with_ends (xs ++ x ∷ []) ≡ with_ends xs ++ (x ++ codes "\n")
with_ends_push xs x =
    with_ends_append xs (x ∷ [])
    ∙ ap (λ (t : List ℕ). with_ends xs ++ t) (append-nil (x ++ codes "\n"))

-- four octets, a mark and a number
pub numbers_flat : (mark : ℕ) (a b c d last : List ℕ)
    → a ++ 46 ∷ (b ++ 46 ∷ (c ++ 46 ∷ (d ++ mark ∷ last)))
    ≡ a ++ (46 ∷ []) ++ b ++ (46 ∷ []) ++ c ++ (46 ∷ []) ++ d ++ (mark ∷ []) ++ last
numbers_flat mark a b c d last = sym (simp append_assoc)

-- one more line
pub line_more : {A : Type 0} (text : A → List ℕ) (xs : List A) (i : ℕ) (x : A) → i < length xs
    → with_ends (map text (take (i + 1) xs))
    ≡ with_ends (map text (take i xs)) ++ (text (get_or xs i x) ++ codes "\n")
line_more text xs i x below =
    ap with_ends (map_more text xs i x below)
    ∙ with_ends_push (map text (take i xs)) (text (get_or xs i x))

module _ (zone : ZoneParts) (settings pools : List (List ℕ)) where
  flat : ((zone_text zone.config ++ codes "\n") ++ with_ends settings) ++ with_ends pools
      ≡ with_ends (zone_text zone.config ∷ (settings ++ pools))
  flat =
      append_assoc (zone_text zone.config ++ codes "\n") (with_ends settings) (with_ends pools)
      ∙ ap (λ (t : List ℕ). (zone_text zone.config ++ codes "\n") ++ t)
      (sym (with_ends_append settings pools))

-- what is left of two lists, of which a pair more is written
pub pair_more : {A B : Type 0} (text : A × B → List ℕ) (written all : List ℕ) (xs xs' : List A)
    (ys ys' : List B) (x : A) (y : B) → xs ≡ x ∷ xs' → ys ≡ y ∷ ys'
    → written ++ with_ends (map text (zip xs ys)) ≡ all
    → (written ++ (text (x, y) ++ codes "\n")) ++ with_ends (map text (zip xs' ys')) ≡ all
pair_more {A} {B} text written all xs xs' ys ys' x y is_x is_y left =
    append_assoc written (text (x, y) ++ codes "\n") (with_ends (map text (zip xs' ys')))
    ∙ ap (λ (ps : List (A × B)). written ++ with_ends (map text ps))
    (λ i. zip (sym is_x i) (sym is_y i))
    ∙ left

-- nothing is left if one of them is at its end
pub none_left : {A B : Type 0} (text : A × B → List ℕ) (written all : List ℕ) (xs : List A)
    (ys : List B) → (xs ≡ []) ⊎ (ys ≡ []) → written ++ with_ends (map text (zip xs ys)) ≡ all
    → written ≡ all
none_left text written all [] ys ended left = sym (append-nil written) ∙ left
none_left text written all (x ∷ xs) [] ended left = sym (append-nil written) ∙ left
none_left text written all (x ∷ xs) (y ∷ ys) (inl e) left = absurd (cc e)
none_left text written all (x ∷ xs) (y ∷ ys) (inr e) left = absurd (cc e)

-- the three parts of a zone's lines
pub all_lines : (zone : ZoneParts)
    → ((zone_text zone.config ++ codes "\n")
    ++ with_ends (map (setting_text zone.config) all_keys))
    ++ with_ends (map pool_line_text (zip zone.pools zone.config.networks))
    ≡ zone_lines zone
unfolding zone_lines
all_lines zone = flat zone (map (setting_text zone.config) all_keys)
    (map pool_line_text (zip zone.pools zone.config.networks))
