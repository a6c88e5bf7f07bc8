-- What a search for a beginning, or for a mark, answers.
use Rattle.std.proofs.Common.{ℕ, ◌≡◌, ◌+◌, ◌++◌, Bool, true, false, eqb, List, [], ◌∷◌}
use Rattle.std.proofs.Common.{length, drop, take, Option, Some, None, MatchOption, Bor, refl, sym}
use Rattle.std.proofs.Common.{ap, ◌∙◌, subst, arith, codes, append_assoc, suc, inl, inr, ◌⊎◌}
use Rattle.std.proofs.lemmas.Bool.{cases_Bool, eq-eqb, false_from_ne_true, true≢false}
use Rattle.std.proofs.lemmas.List.{append_cancel_left, take-append-drop}
use Rattle.std.proofs.lemmas.Slice.Eq.{bytes_eq-Decides}
use Rattle.std.proofs.lemmas.Str.Pattern.{starts_text}
use Rattle.std.proofs.Math.Seq.{take-append_seam}
use Rattle.std.specs.List.{list_any, position_or_len, starts_with}
use Rattle.std.specs.Option.{option_copied}
use Rattle.std.specs.Str.{bytes_eq, IsCharBoundary}
use Rattle.std.specs.Str.Pattern.{FindsTextPrefix, StripsPrefix}
use Rattle.commands.specs.KeyLines.{behind, path_in}

pub stripped : (beginning text : List ℕ) (found : Option (Bor (List ℕ)))
    → MatchOption found (FindsTextPrefix beginning text None)
    (λ x. StripsPrefix (FindsTextPrefix beginning) text x.now)
    → option_copied found ≡ behind beginning text
stripped beginning text None is =
    let no_such : false ≡ starts_with eqb text beginning = starts_text false beginning text is in
    rw (← no_such) refl
stripped beginning text (Some rest) is =
    let at : IsCharBoundary text is.0 =
    subst (λ (n : ℕ). IsCharBoundary text n) (sym is.1.0) is.1.2 in
    let begins : true ≡ starts_with eqb text beginning =
    starts_text true beginning text (is.0, is.1, at) in
    rw (← begins) (ap Some (is.2 ∙ ap (λ n. drop n text) is.1.0))

no_mark_by : {X : Type 0} (p : X → Bool) (x : X) (xs : List X) → (p x ≡ true) ⊎ (p x ≡ false)
    → (position_or_len p xs ≡ length xs → list_any p xs ≡ false)
    → position_or_len p (x ∷ xs) ≡ length (x ∷ xs) → list_any p (x ∷ xs) ≡ false
no_mark_by p x xs (inl h) others e =
    let none : 0 ≡ suc (length xs) = rw h at e in absurd (omega (arith, none))
no_mark_by p x xs (inr h) others e =
    let more : 1 + position_or_len p xs ≡ suc (length xs) = rw h at e in
    rw h (others (omega (arith, more)))

pub no_mark : {X : Type 0} (p : X → Bool) (xs : List X) → position_or_len p xs ≡ length xs
    → list_any p xs ≡ false
no_mark p [] e = refl
no_mark p (x ∷ xs) e = no_mark_by p x xs (cases_Bool (p x)) (no_mark p xs) e

-- a text that begins so is the beginning with what stands behind it
begun_by : (beginning text rest : List ℕ)
    → (starts_with eqb text beginning ≡ true) ⊎ (starts_with eqb text beginning ≡ false)
    → behind beginning text ≡ Some rest → text ≡ beginning ++ rest
begun_by beginning text rest (inl h) e =
    let same : beginning ≡ take (length beginning) text = (bytes_eq-Decides _ _).0 h in
    let left : Some (drop (length beginning) text) ≡ Some rest = rw h at e in
    let is : drop (length beginning) text ≡ rest = cc left in
    sym (take-append-drop (length beginning) text)
    ∙ ap (λ front. front ++ drop (length beginning) text) (sym same)
    ∙ ap (λ back. beginning ++ back) is
begun_by beginning text rest (inr h) e =
    let none : ◌≡◌ {A = Option (List ℕ)} None (Some rest) = rw h at e in absurd (cc none)

begun : (beginning text rest : List ℕ) → behind beginning text ≡ Some rest
    → text ≡ beginning ++ rest
begun beginning text rest e = begun_by beginning text rest (cases_Bool _) e

not_begun : (beginning text rest : List ℕ) → behind beginning text ≡ None
    → text ≡ beginning ++ rest → ⊥
not_begun beginning text rest e is =
    let front : beginning ≡ take (length beginning) text =
    sym (ap (λ t. take (length beginning) t) is ∙ take-append_seam beginning rest) in
    let begins : starts_with eqb text beginning ≡ true = (bytes_eq-Decides _ _).1 front in
    let some : Some (drop (length beginning) text) ≡ None = rw begins at e in absurd (cc some)

bytes_eq-append : (front xs ys : List ℕ)
    → bytes_eq (front ++ xs) (front ++ ys) ≡ bytes_eq xs ys
bytes_eq-append [] xs ys = refl
bytes_eq-append (c ∷ front) xs ys = rw (eq-eqb c c refl) (bytes_eq-append front xs ys)

path_in_some : (table key : List ℕ) → eqb (length table) 0 ≡ false
    → path_in table key ≡ table ++ (codes "." ++ key)
path_in_some [] key filled = absurd (true≢false filled)
path_in_some (c ∷ table) key filled = append_assoc (c ∷ table) (codes ".") key

pub other_table : (path table key : List ℕ) → eqb (length table) 0 ≡ false
    → behind table path ≡ None → false ≡ bytes_eq path (path_in table key)
other_table path table key filled e = sym (false_from_ne_true _
    (λ same. not_begun table path (codes "." ++ key) e
    ((bytes_eq-Decides _ _).0 same ∙ path_in_some table key filled)))

pub other_mark : (path table key rest : List ℕ) → eqb (length table) 0 ≡ false
    → behind table path ≡ Some rest → behind (codes ".") rest ≡ None
    → false ≡ bytes_eq path (path_in table key)
other_mark path table key rest filled e none = sym (false_from_ne_true _
    (λ same. not_begun (codes ".") rest key none (append_cancel_left table _ _
    (sym (begun table path rest e) ∙ (bytes_eq-Decides _ _).0 same
    ∙ path_in_some table key filled))))

pub same_table : (path table key rest name : List ℕ) → eqb (length table) 0 ≡ false
    → behind table path ≡ Some rest → behind (codes ".") rest ≡ Some name
    → bytes_eq name key ≡ bytes_eq path (path_in table key)
same_table path table key rest name filled e f =
    let is : path ≡ table ++ (codes "." ++ name) =
    begun table path rest e ∙ ap (λ back. table ++ back) (begun (codes ".") rest name f) in
    sym (ap (λ p. bytes_eq p (path_in table key)) is
    ∙ ap (λ p. bytes_eq (table ++ (codes "." ++ name)) p) (path_in_some table key filled)
    ∙ bytes_eq-append table (codes "." ++ name) (codes "." ++ key)
    ∙ bytes_eq-append (codes ".") name key)
