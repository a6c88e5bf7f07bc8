-- Places in lists that stand one behind the other.
use Rattle.std.proofs.Common.{◌≡◌, ◌<◌, ◌≤◌, ◌+◌, ◌-◌, ◌∙◌, ℕ, zero, suc, List}
use Rattle.std.proofs.Common.{[], ◌∷◌, ◌++◌, length}
use Rattle.std.proofs.Common.{drop, get_or, refl, sym, ap, arith, Some}
use Rattle.std.specs.Prelude.{slice_get}
use Rattle.std.proofs.Math.ListN.{drop_of_length-le}
use Rattle.std.proofs.lemmas.Option.{slice_get-get_or}
use Rattle.books.specs.declared.book.Entry.{Entry}
use Rattle.books.specs.Chapters.{ChapterValue}
use Rattle.book_audit.specs.Joined.{entries_of}
use Rattle.book_audit.proofs.EntrySums.{cut_at}

in_front : (xs ys : List Entry) (i : ℕ) → i < length xs
    → slice_get (xs ++ ys) i ≡ slice_get xs i
in_front [] ys i below = absurd (omega arith)
in_front (x ∷ xs) ys zero below = refl
in_front (x ∷ xs) ys (suc i) below = in_front xs ys i (omega arith)

past_front : (xs ys : List Entry) (i : ℕ) → length xs ≤ i
    → slice_get (xs ++ ys) i ≡ slice_get ys (i - length xs)
past_front [] ys i past = ap (slice_get ys) (omega arith)
past_front (x ∷ xs) ys zero past = absurd (omega arith)
past_front (x ∷ xs) ys (suc i) past =
    let same : i - length xs ≡ suc i - length (x ∷ xs) = omega arith in
    past_front xs ys i (omega arith) ∙ ap (slice_get ys) same

both : (xs ys zs : List Entry) → (xs ++ ys) ++ zs ≡ xs ++ (ys ++ zs)
both [] ys zs = refl
both (x ∷ xs) ys zs = ap (λ es. x ∷ es) (both xs ys zs)

module _ (all : List ChapterValue) (rest : List Entry) (i left place : ℕ)
    (looked : slice_get (entries_of (drop i all) ++ rest) left
    ≡ slice_get (entries_of all ++ rest) place) where
  module _ (c : ChapterValue) (below : i < length all) (is : c ≡ get_or all i c) where
    next : slice_get (c.entries ++ (entries_of (drop (i + 1) all) ++ rest)) left
        ≡ slice_get (entries_of all ++ rest) place
    next =
        sym (ap (λ (es : List Entry). slice_get es left)
        (ap (λ (cs : List ChapterValue). entries_of cs ++ rest) (cut_at all i c below is)
        ∙ both c.entries (entries_of (drop (i + 1) all)) rest)) ∙ looked

    pub in_chapter : (e : Entry) → left < length c.entries → e ≡ get_or c.entries left e
        → Some e ≡ slice_get (entries_of all ++ rest) place
    in_chapter e within at =
        ap Some at
        ∙ (sym (slice_get-get_or c.entries left e within)
        ∙ (sym (in_front c.entries (entries_of (drop (i + 1) all) ++ rest) left within) ∙ next))

    pub behind_chapter : length c.entries ≤ left
        → slice_get (entries_of (drop (i + 1) all) ++ rest) (left - length c.entries)
        ≡ slice_get (entries_of all ++ rest) place
    behind_chapter past =
        sym (past_front c.entries (entries_of (drop (i + 1) all) ++ rest) left past) ∙ next

  pub in_rest : length all ≤ i → slice_get rest left ≡ slice_get (entries_of all ++ rest) place
  in_rest past =
      sym (ap (λ (cs : List ChapterValue). slice_get (entries_of cs ++ rest) left)
      (drop_of_length-le all past)) ∙ looked
