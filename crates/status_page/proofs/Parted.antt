-- The parts of a query, one after another.
use Rattle.std.proofs.Common.{◌≡◌, ℕ, ◌==◌, Bool, true, false, List, [], ◌∷◌, ◌⊎◌, inl, inr, refl, ap, ap₂, sym, ◌∙◌, ◌+◌, suc, take, drop, arith, option_and_then}
use Rattle.value_texts.specs.Parts.{front_part, rest_part}
use Rattle.status_page.specs.Queries.{parts_of, begun_by, with_part, with_parts}
use Rattle.status_page.specs.declared.query.Query.{Query}
use Rattle.status_page.specs.declared.query.Table.{Table}

-- the first part and those behind it, or the only one
abbrev pub IsParted : ℕ → List ℕ → Type 0
IsParted mark text = (parts_of mark text ≡ front_part mark text ∷ parts_of mark (rest_part mark text))
    ⊎ ((parts_of mark text ≡ front_part mark text ∷ []) × (rest_part mark text ≡ []))

one_plus : (n : ℕ) → 1 + n ≡ suc n
one_plus n = omega arith

take_one : (n c : ℕ) (cs : List ℕ) → take (1 + n) (c ∷ cs) ≡ c ∷ take n cs
take_one n c cs = ap (λ m. take m (c ∷ cs)) (one_plus n)

drop_one : (n c : ℕ) (cs : List ℕ) → drop (1 + n + 1) (c ∷ cs) ≡ drop (n + 1) cs
drop_one n c cs =
    let plus : 1 + n + 1 ≡ suc (n + 1) = omega arith in
    ap (λ m. drop m (c ∷ cs)) plus

pub parted_text : (mark : ℕ) (text : List ℕ) → IsParted mark text
parted_text mark [] = inr (refl, refl)
parted_text mark (c ∷ cs) = by (c == mark) refl (parted_text mark cs)
  where
    by : (is : Bool) → (c == mark) ≡ is → IsParted mark cs → IsParted mark (c ∷ cs)
    by true h p = inl (rw h refl)
    by false h (inl p) = inl (rw h (ap (begun_by c) p
        ∙ ap₂ (λ front rest. front ∷ parts_of mark rest) (sym (take_one _ c cs)) (sym (drop_one _ c cs))))
    by false h (inr p) = inr (rw h (ap (begun_by c) p.0 ∙ ap (λ front. front ∷ []) (sym (take_one _ c cs))), rw h (drop_one _ c cs ∙ p.1))

-- a query with its parts is one with the first part, and then with those behind it
pub first_part_first : (table : Table) (query : Query) (mark : ℕ) (text : List ℕ)
    → with_parts table query (parts_of mark text)
    ≡ option_and_then (λ changed. with_parts table changed (parts_of mark (rest_part mark text)))
    (with_part table query (front_part mark text))
first_part_first table query mark text = by (parted_text mark text)
  where
    by : IsParted mark text → with_parts table query (parts_of mark text)
        ≡ option_and_then (λ changed. with_parts table changed (parts_of mark (rest_part mark text)))
        (with_part table query (front_part mark text))
    by (inl p) = ap (with_parts table query) p
    by (inr p) = rw (p.0, p.1) refl
