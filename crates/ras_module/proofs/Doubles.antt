-- A list without later doubles, built from its front.
use Rattle.std.proofs.Common.{◌≡◌, ◌<◌, ◌+◌, ℕ, Bool, true, false, not, cond, List, [], ◌∷◌, ◌++◌}
use Rattle.std.proofs.Common.{◌||◌, length, get_or, drop, refl, sym, ◌∙◌, ap, append_assoc}
use Rattle.std.specs.Prelude.{filter}
use Rattle.std.proofs.lemmas.List.{at_drop_more}
use Rattle.std.proofs.Math.Bool.{or-false}
use Rattle.ras_module.specs.declared.alias.Alias.{Alias}
use Rattle.ras_module.specs.Aliases.{same_alias, has_alias, without_doubles}
use Rattle.ras_module.specs.Same.{alias_decides}

abbrev is_new : List Alias → Alias → Bool
is_new kept a = not (has_alias kept a)

abbrev differs : Alias → Alias → Bool
differs x a = not (same_alias x a)

-- those that were kept, and what is new in the rest
abbrev pub kept_and_new : List Alias → List Alias → List Alias
kept_and_new kept rest = kept ++ filter (is_new kept) (without_doubles rest)

same_filter : (p q : Alias → Bool) → ((a : Alias) → p a ≡ q a) → (xs : List Alias)
    → filter p xs ≡ filter q xs
same_filter p q same [] = refl
same_filter p q same (x ∷ xs) =
    ap (λ b. cond b (x ∷ filter p xs) (filter p xs)) (same x)
    ∙ ap (λ r. cond (q x) (x ∷ r) r) (same_filter p q same xs)

-- one filter after another
abbrev both : (Alias → Bool) → (Alias → Bool) → Alias → Bool
both q p a = cond (q a) (p a) false

filter_twice : (p q : Alias → Bool) (xs : List Alias)
    → filter p (filter q xs) ≡ filter (both q p) xs
filter_twice p q [] = refl
filter_twice p q (x ∷ xs) = cases (q x) (filter_twice p q xs) where
  cases : (b : Bool) → filter p (filter q xs) ≡ filter (both q p) xs
      → filter p (cond b (x ∷ filter q xs) (filter q xs))
      ≡ cond (cond b (p x) false) (x ∷ filter (both q p) xs) (filter (both q p) xs)
  cases true rest = ap (λ r. cond (p x) (x ∷ r) r) rest
  cases false rest = rest

-- an alias that is kept already, before the rest
pub kept_already : (kept rest : List Alias) (x : Alias) → has_alias kept x ≡ true
    → kept_and_new kept (x ∷ rest) ≡ kept_and_new kept rest
kept_already kept rest x has =
    ap (λ r. kept ++ r)
    (ap (λ b. cond (not b) (x ∷ filter (is_new kept) (filter (differs x) (without_doubles rest)))
    (filter (is_new kept) (filter (differs x) (without_doubles rest)))) has
    ∙ (filter_twice (is_new kept) (differs x) (without_doubles rest)
    ∙ same_filter (both (differs x) (is_new kept)) (is_new kept)
    (λ a. cases a (same_alias x a) refl) (without_doubles rest))) where
      cases : (a : Alias) (b : Bool) → same_alias x a ≡ b
          → cond (not b) (is_new kept a) false ≡ is_new kept a
      cases a true same =
          sym (ap not (ap (has_alias kept) (sym ((alias_decides x a).0 same)) ∙ has))
      cases a false differ = refl

has_push : (kept : List Alias) (x a : Alias)
    → has_alias (kept ++ x ∷ []) a ≡ (has_alias kept a || same_alias x a)
has_push [] x a = or-false (same_alias x a)
has_push (k ∷ kept) x a = cases (same_alias k a) (has_push kept x a) where
  cases : (b : Bool) → has_alias (kept ++ x ∷ []) a ≡ (has_alias kept a || same_alias x a)
      → (b || has_alias (kept ++ x ∷ []) a) ≡ ((b || has_alias kept a) || same_alias x a)
  cases true rest = refl
  cases false rest = rest

neither : (h s : Bool) → cond (not s) (not h) false ≡ not (h || s)
neither true true = refl
neither true false = refl
neither false true = refl
neither false false = refl

-- an alias that is new, before the rest
pub kept_now : (kept rest : List Alias) (x : Alias) → has_alias kept x ≡ false
    → kept_and_new kept (x ∷ rest) ≡ kept_and_new (kept ++ x ∷ []) rest
kept_now kept rest x absent =
    ap (λ r. kept ++ r)
    (ap (λ b. cond (not b) (x ∷ filter (is_new kept) (filter (differs x) (without_doubles rest)))
    (filter (is_new kept) (filter (differs x) (without_doubles rest)))) absent
    ∙ ap (λ r. x ∷ r)
    (filter_twice (is_new kept) (differs x) (without_doubles rest)
    ∙ same_filter (both (differs x) (is_new kept)) (is_new (kept ++ x ∷ []))
    (λ a. neither (has_alias kept a) (same_alias x a) ∙ ap not (sym (has_push kept x a)))
    (without_doubles rest)))
    ∙ sym (append_assoc kept (x ∷ []) (filter (is_new (kept ++ x ∷ [])) (without_doubles rest)))

all_new : (xs : List Alias) → filter (is_new []) xs ≡ xs
all_new [] = refl
all_new (x ∷ xs) = ap (λ r. x ∷ r) (all_new xs)

-- at the beginning nothing is kept
pub none_kept : (rest : List Alias) → kept_and_new [] rest ≡ without_doubles rest
none_kept rest = all_new (without_doubles rest)

next_is : (items : List Alias) (i : ℕ) (x : Alias) → i < length items → x ≡ get_or items i x
    → drop i items ≡ x ∷ drop (i + 1) items
next_is items i x below is = at_drop_more (λ (ys : List Alias). ys) items i x below
    ∙ ap (λ y. y ∷ drop (i + 1) items) (sym is)

-- the list after its next alias, if that is kept already, and if it is new
pub goes_on_with_double : (items : List Alias) (i : ℕ) (x : Alias) (kept all : List Alias)
    → i < length items → x ≡ get_or items i x
    → has_alias kept x ≡ true → kept_and_new kept (drop i items) ≡ all
    → kept_and_new kept (drop (i + 1) items) ≡ all
goes_on_with_double items i x kept all below is has so_far =
    sym (kept_already kept (drop (i + 1) items) x has)
    ∙ (ap (kept_and_new kept) (sym (next_is items i x below is)) ∙ so_far)

pub goes_on_with_new : (items : List Alias) (i : ℕ) (x : Alias) (kept all : List Alias)
    → i < length items → x ≡ get_or items i x
    → has_alias kept x ≡ false → kept_and_new kept (drop i items) ≡ all
    → kept_and_new (kept ++ x ∷ []) (drop (i + 1) items) ≡ all
goes_on_with_new items i x kept all below is absent so_far =
    sym (kept_now kept (drop (i + 1) items) x absent)
    ∙ (ap (kept_and_new kept) (sym (next_is items i x below is)) ∙ so_far)
