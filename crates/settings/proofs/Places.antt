-- The place behind one octet more.
use Rattle.std.proofs.Common.{◌≡◌, ◌≢◌, ◌<◌, ◌+◌, ◌-◌, ◌∙◌, ℕ, Bool, true, false, not, List}
use Rattle.std.proofs.Common.{[], ◌∷◌, ◌++◌, ap, sym, arith, length, get_or, take, drop}
use Rattle.std.specs.Prelude.{◌==◌, count_by}
use Rattle.std.specs.Fmt.{is_char_start}
use Rattle.std.specs.List.{after_last, prefix_len, suffix_len}
use Rattle.std.proofs.Math.ListN.{drop_of_length-le}
use Rattle.std.proofs.Math.Seq.{get_or-append_seam, take-append_seam, take-length}
use Rattle.std.proofs.lemmas.Bool.{cond-false, cond-true}
use Rattle.std.proofs.lemmas.List.{drop-append-le, length_push, reverse-append, take_more}
use Rattle.std.proofs.lemmas.List.Sums.{count_by_more_no, count_by_more_yes}
use Rattle.settings.specs.Places.{column_behind, line_behind}

module _ {X : Type 0} (p : X → Bool) where
  -- behind an element that passes, nothing is left
  after_last-push_yes : (xs : List X) (x : X) → p x ≡ true → after_last p (xs ++ x ∷ []) ≡ []
  after_last-push_yes xs x e =
      let none : suffix_len (λ y. not (p y)) (xs ++ x ∷ []) ≡ 0 =
      ap (prefix_len (λ y. not (p y))) (reverse-append xs (x ∷ []))
      ∙ cond-false (not (p x)) _ 0 (ap not e) in
      drop_of_length-le (xs ++ x ∷ []) (omega (arith, none))

  -- any other is left, too
  after_last-push_no : (xs : List X) (x : X) → p x ≡ false
      → after_last p (xs ++ x ∷ []) ≡ after_last p xs ++ x ∷ []
  after_last-push_no xs x e =
      let some : suffix_len (λ y. not (p y)) (xs ++ x ∷ []) ≡ 1 + suffix_len (λ y. not (p y)) xs =
      ap (prefix_len (λ y. not (p y))) (reverse-append xs (x ∷ []))
      ∙ cond-true (not (p x)) _ 0 (ap not e) in
      let n = length xs - suffix_len (λ y. not (p y)) xs in
      let at : length (xs ++ x ∷ []) - suffix_len (λ y. not (p y)) (xs ++ x ∷ []) ≡ n =
      omega (arith, some, length_push xs x) in
      ap (λ k. drop k (xs ++ x ∷ [])) at ∙ drop-append-le n xs (x ∷ []) (omega arith)

  count_by-push_yes : (xs : List X) (x : X) → p x ≡ true
      → count_by p (xs ++ x ∷ []) ≡ count_by p xs + 1
  count_by-push_yes xs x e =
      let ys = xs ++ x ∷ [] in
      let last : p (get_or ys (length xs) x) ≡ true = ap p (get_or-append_seam xs x [] x) ∙ e in
      let more = count_by_more_yes p ys (length xs) x (omega (arith, length_push xs x)) last in
      let whole : take (length xs + 1) ys ≡ ys =
      ap (λ n. take n ys) (sym (length_push xs x)) ∙ take-length ys in
      ap (count_by p) (sym whole) ∙ more
      ∙ ap (λ zs. count_by p zs + 1) (take-append_seam xs (x ∷ []))

  count_by-push_no : (xs : List X) (x : X) → p x ≡ false
      → count_by p (xs ++ x ∷ []) ≡ count_by p xs
  count_by-push_no xs x e =
      let ys = xs ++ x ∷ [] in
      let last : p (get_or ys (length xs) x) ≡ false = ap p (get_or-append_seam xs x [] x) ∙ e in
      let more = count_by_more_no p ys (length xs) x (omega (arith, length_push xs x)) last in
      let whole : take (length xs + 1) ys ≡ ys =
      ap (λ n. take n ys) (sym (length_push xs x)) ∙ take-length ys in
      ap (count_by p) (sym whole) ∙ more
      ∙ ap (count_by p) (take-append_seam xs (x ∷ []))

-- the next octet ends the line
pub record IsNextLine (text : List ℕ) (i : ℕ) : Type 0 where
  pub line : line_behind (take (i + 1) text) ≡ line_behind (take i text) + 1
  pub column : column_behind (take (i + 1) text) ≡ 1

pub next_line : (text : List ℕ) (i : ℕ) → i < length text → get_or text i 0 ≡ 10
    → IsNextLine text i
next_line text i within ends =
    let c = get_or text i 0 in
    let is : (c == 10) ≡ true = ap (λ k. k == 10) ends in
    let more = take_more text i 0 within in record {
      line = ap line_behind more
          ∙ ap (λ k. k + 1) (count_by-push_yes (λ k. k == 10) (take i text) c is);
      column = ap column_behind more
          ∙ ap (λ ys. count_by is_char_start ys + 1)
          (after_last-push_yes (λ k. k == 10) (take i text) c is);
    }

-- it goes on with the line: a character begins there, or not
pub record IsSameLine (text : List ℕ) (i more : ℕ) : Type 0 where
  pub line : line_behind (take (i + 1) text) ≡ line_behind (take i text)
  pub column : column_behind (take (i + 1) text) ≡ column_behind (take i text) + more

same_line : (text : List ℕ) (i : ℕ) → i < length text → get_or text i 0 ≢ 10
    → (line_behind (take (i + 1) text) ≡ line_behind (take i text))
    × (column_behind (take (i + 1) text)
    ≡ count_by is_char_start
    (after_last (λ k. k == 10) (take i text) ++ get_or text i 0 ∷ []) + 1)
same_line text i within goes_on =
    let c = get_or text i 0 in
    let is : (c == 10) ≡ false = grind (arith, goes_on) in
    let more = take_more text i 0 within in (
      ap line_behind more
          ∙ ap (λ k. k + 1) (count_by-push_no (λ k. k == 10) (take i text) c is),
      ap column_behind more
          ∙ ap (λ ys. count_by is_char_start ys + 1)
          (after_last-push_no (λ k. k == 10) (take i text) c is),
    )

pub next_character : (text : List ℕ) (i : ℕ) → i < length text → get_or text i 0 ≢ 10
    → is_char_start (get_or text i 0) ≡ true → IsSameLine text i 1
next_character text i within goes_on begins =
    let same = same_line text i within goes_on in
    let so_far = after_last (λ k. k == 10) (take i text) in record {
      line = same.0;
      column = same.1
          ∙ ap (λ k. k + 1) (count_by-push_yes is_char_start so_far (get_or text i 0) begins);
    }

pub same_character : (text : List ℕ) (i : ℕ) → i < length text → get_or text i 0 ≢ 10
    → is_char_start (get_or text i 0) ≡ false → IsSameLine text i 0
same_character text i within goes_on is_behind =
    let same = same_line text i within goes_on in
    let so_far = after_last (λ k. k == 10) (take i text) in
    let more = count_by-push_no is_char_start so_far (get_or text i 0) is_behind in record {
      line = same.0;
      column = omega (arith, same.1, more);
    }
