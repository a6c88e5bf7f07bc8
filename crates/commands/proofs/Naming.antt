-- The lines that name a path, one after the other.
use Rattle.std.proofs.Common.{ℕ, ◌≡◌, ◌<◌, ◌+◌, ◌-◌, suc, zero, true, false, List, [], ◌∷◌}
use Rattle.std.proofs.Common.{length, get_or, drop, map, Some, None, Option, refl, sym, ap, ◌∙◌}
use Rattle.std.proofs.Common.{arith, sub-one, add-one, zero-add, drop-cons, ◌≤◌, ◌⊎◌, ◌==◌, inl}
use Rattle.std.proofs.Common.{Bool, inr}
use Rattle.std.proofs.lemmas.Bool.{cases_Bool, ne_eqb}
use Rattle.std.proofs.lemmas.List.{drop_all, get_or-map, length-map}
use Rattle.std.proofs.lemmas.List.FromFn.{get_or-enumerate_from, length-enumerate_from}
use Rattle.std.specs.List.{enumerate_from, onto_first, slice_get, slice_split}
use Rattle.std.specs.Str.{trim}
use Rattle.std.specs.Str.Lines.{lines, lines_of_parts}
use Rattle.commands.specs.KeyLines.{is_named, naming_lines, table_behind}

pub found_here : (path table : List ℕ) (number : ℕ) (line : List ℕ) (lines : List (List ℕ))
    → is_named path table line ≡ true
    → slice_get (naming_lines path table number (line ∷ lines)) 0 ≡ Some number
found_here path table number line lines e = rw e refl

pub found_behind : (path table : List ℕ) (number left : ℕ) (line : List ℕ)
    (lines : List (List ℕ)) → is_named path table line ≡ true → 0 < left
    → slice_get (naming_lines path table number (line ∷ lines)) left
    ≡ slice_get (naming_lines path (table_behind table line) (number + 1) lines) (left - 1)
found_behind path table number zero line lines e some = absurd (omega (arith, some))
found_behind path table number (suc left) line lines e some = rw (e, sub-one) refl

pub not_here : (path table : List ℕ) (number left : ℕ) (line : List ℕ) (lines : List (List ℕ))
    → is_named path table line ≡ false
    → slice_get (naming_lines path table number (line ∷ lines)) left
    ≡ slice_get (naming_lines path (table_behind table line) (number + 1) lines) left
not_here path table number left line lines e = rw e refl

-- the lines of a text without white space around them, from one of them on
pub from_line : (text : List ℕ) (k : ℕ) (line trimmed : List ℕ) → k < length (lines text)
    → line ≡ get_or (lines text) k line → trimmed ≡ trim line
    → drop k (map trim (lines text)) ≡ trimmed ∷ drop (k + 1) (map trim (lines text))
from_line text k line trimmed below is e =
    let less : k < length (map trim (lines text)) = omega (arith, length-map (lines text) trim) in
    let at : get_or (map trim (lines text)) k trimmed ≡ trimmed =
    get_or-map trim (lines text) k line trimmed below ∙ ap trim (sym is) ∙ sym e in
    rw (add-one, drop-cons (map trim (lines text)) k trimmed less, at) refl

-- what is left to be found, from this line on
abbrev pub Finds : List ℕ → List ℕ → List ℕ → ℕ → ℕ → Option ℕ → Type 0
Finds text path table k left found =
    slice_get (naming_lines path table (k + 1) (drop k (map trim (lines text)))) left ≡ found

pub finds_here : (text path table : List ℕ) (k left : ℕ) (found : Option ℕ)
    (line trimmed : List ℕ) → k < length (lines text) → line ≡ get_or (lines text) k line
    → trimmed ≡ trim line → is_named path table trimmed ≡ true → left ≡ 0
    → Finds text path table k left found → Some (k + 1) ≡ found
finds_here text path table k left found line trimmed below is e named first finds =
    let rest = from_line text k line trimmed below is e in
    sym (found_here path table (k + 1) trimmed (drop (k + 1) (map trim (lines text))) named)
    ∙ ap (λ lines. slice_get (naming_lines path table (k + 1) lines) 0) (sym rest)
    ∙ ap (λ n. slice_get (naming_lines path table (k + 1) (drop k (map trim (lines text)))) n)
    (sym first) ∙ finds

pub finds_behind : (text path table : List ℕ) (k next left : ℕ) (found : Option ℕ)
    (line trimmed : List ℕ) → k < length (lines text) → line ≡ get_or (lines text) k line
    → trimmed ≡ trim line → is_named path table trimmed ≡ true → 0 < left → next ≡ k + 1
    → Finds text path table k left found
    → Finds text path (table_behind table trimmed) next (left - 1) found
finds_behind text path table k next left found line trimmed below is e named some after finds =
    let rest = from_line text k line trimmed below is e in
    rw after (
    sym (found_behind path table (k + 1) left trimmed (drop (k + 1) (map trim (lines text))) named
    some)
    ∙ ap (λ lines. slice_get (naming_lines path table (k + 1) lines) left) (sym rest) ∙ finds)

pub finds_later : (text path table : List ℕ) (k next left : ℕ) (found : Option ℕ)
    (line trimmed : List ℕ) → k < length (lines text) → line ≡ get_or (lines text) k line
    → trimmed ≡ trim line → is_named path table trimmed ≡ false → next ≡ k + 1
    → Finds text path table k left found
    → Finds text path (table_behind table trimmed) next left found
finds_later text path table k next left found line trimmed below is e other after finds =
    let rest = from_line text k line trimmed below is e in
    rw after (
    sym (not_here path table (k + 1) left trimmed (drop (k + 1) (map trim (lines text))) other)
    ∙ ap (λ lines. slice_get (naming_lines path table (k + 1) lines) left) (sym rest) ∙ finds)

pub finds_none : (text path table : List ℕ) (k left : ℕ) (found : Option ℕ)
    → k ≡ length (lines text) → Finds text path table k left found → None ≡ found
finds_none text path table k left found all finds =
    let none : drop k (map trim (lines text)) ≡ [] =
    drop_all k (map trim (lines text)) (omega (arith, length-map (lines text) trim)) in
    ap (λ lines. slice_get (naming_lines path table (k + 1) lines) left) (sym none) ∙ finds

-- where a line stands among the lines with their indices
pub placed : (ls : List (List ℕ)) (k i : ℕ) (line : List ℕ) → k < length (enumerate_from 0 ls)
    → ◌≡◌ {A = ℕ × List ℕ} (i, line) (get_or (enumerate_from 0 ls) k (i, line))
    → (k < length ls) × (i ≡ k) × (line ≡ get_or ls k line)
placed ls k i line below e =
    let less : k < length ls = omega (arith, length-enumerate_from 0 ls) in
    let at : ◌≡◌ {A = ℕ × List ℕ} (i, line) (0 + k, get_or ls k line) =
    e ∙ get_or-enumerate_from 0 ls k (i, line) less in
    (less, ap (λ (p : ℕ × List ℕ). p.0) at ∙ zero-add k, ap (λ (p : ℕ × List ℕ). p.1) at)

few_behind : (parts : List (List ℕ)) (n : ℕ) → length (lines_of_parts parts) ≤ n
    → length (lines_of_parts ([] ∷ parts)) ≤ suc n
few_behind [] n few = omega arith
few_behind (part ∷ parts) n few = omega (arith, few)

few_longer : (x : ℕ) (parts : List (List ℕ)) (n : ℕ) → length (lines_of_parts parts) ≤ n
    → length (lines_of_parts (onto_first x parts)) ≤ suc n
few_longer x [] n few = omega arith
few_longer x (part ∷ []) n few =
    let one : length (lines_of_parts (onto_first x (part ∷ []))) ≡ 1 =
    rw (ne_eqb (suc (length part)) 0 (λ e. omega (arith, e))) refl in omega (arith, one)
few_longer x (part ∷ next ∷ parts) n few = omega (arith, few)

few_by : (p : ℕ → Bool) (x : ℕ) (xs : List ℕ) → (p x ≡ true) ⊎ (p x ≡ false)
    → length (lines_of_parts (slice_split p xs)) ≤ length xs
    → length (lines_of_parts (slice_split p (x ∷ xs))) ≤ suc (length xs)
few_by p x xs (inl h) few = rw h (few_behind (slice_split p xs) (length xs) few)
few_by p x xs (inr h) few = rw h (few_longer x (slice_split p xs) (length xs) few)

few_parts : (p : ℕ → Bool) (xs : List ℕ) → length (lines_of_parts (slice_split p xs)) ≤ length xs
few_parts p [] = omega arith
few_parts p (x ∷ xs) = few_by p x xs (cases_Bool (p x)) (few_parts p xs)

-- a text has no more lines than octets
pub few_lines : (text : List ℕ) → length (lines text) ≤ length text
few_lines text = few_parts (λ c. c == 10) text
