-- Sums over the entries of chapters.
use Rattle.std.proofs.Common.{◌≡◌, ◌<◌, ◌≤◌, ◌+◌, ◌*◌, ◌^◌, ◌∙◌, ℕ, suc, List}
use Rattle.std.proofs.Common.{[], ◌∷◌, ◌++◌, length, drop}
use Rattle.std.proofs.Common.{get_or, refl, sym, ap, subst, arith}
use Rattle.std.proofs.Math.ListN.{drop_of_length-le}
use Rattle.std.proofs.Math.Seq.{drop-cons}
use Rattle.std.proofs.lemmas.List.{length-append}
use Rattle.std.proofs.lemmas.List.Sums.{sum_by-append, sum_by-cons}
use Rattle.zone_events.specs.declared.change.Change.{Change}
use Rattle.zone_events.specs.declared.change.Change.TheVariants.{Event, PoolChange}
use Rattle.zone_events.specs.declared.event.Event.TheVariants.{Datagram, Turn}
use Rattle.books.specs.declared.book.Entry.{Entry}
use Rattle.books.specs.declared.totals.Totals.{Totals}
use Rattle.books.specs.Chapters.{ChapterValue}
use Rattle.books.specs.Totals.{changes_in, changes_of, datagrams_in, datagrams_of, lent_of}
use Rattle.books.specs.Totals.{no_totals, totals_with, turns_in}
use Rattle.books.specs.Totals.{turns_of, units_lent}
use Rattle.book_audit.specs.Joined.{entries_of}

-- what is left of a list, and its next element
pub cut_at : {A : Type 0} (all : List A) (i : ℕ) (x : A) → i < length all → x ≡ get_or all i x
    → drop i all ≡ x ∷ drop (i + 1) all
cut_at {A} all i x below is =
    let next : suc i ≡ i + 1 = omega arith in
    drop-cons all i x below
    ∙ (ap (λ (k : ℕ). get_or all i x ∷ drop k all) next
    ∙ ap (λ (y : A). y ∷ drop (i + 1) all) (sym is))

-- an entry is of a datagram, of a turn, or of a pool that took the place of another one
one_each : (e : Change) → datagrams_in e + turns_in e + changes_in e ≡ 1
one_each (Event (Datagram source bytes moment)) = refl
one_each (Event (Turn moment)) = refl
one_each (PoolChange replacement) = refl

pub counts : (entries : List Entry)
    → datagrams_of entries + turns_of entries + changes_of entries ≡ length entries
counts [] = refl
counts (e ∷ entries) =
    omega (
      arith,
      one_each e.event,
      counts entries,
      sum_by-cons (λ (x : Entry). datagrams_in x.event) e entries,
      sum_by-cons (λ (x : Entry). turns_in x.event) e entries,
      sum_by-cons (λ (x : Entry). changes_in x.event) e entries,
    )

pub datagrams_of-append : (xs ys : List Entry)
    → datagrams_of (xs ++ ys) ≡ datagrams_of xs + datagrams_of ys
datagrams_of-append xs ys = sum_by-append (λ (x : Entry). datagrams_in x.event) xs ys

pub turns_of-append : (xs ys : List Entry) → turns_of (xs ++ ys) ≡ turns_of xs + turns_of ys
turns_of-append xs ys = sum_by-append (λ (x : Entry). turns_in x.event) xs ys

pub changes_of-append : (xs ys : List Entry)
    → changes_of (xs ++ ys) ≡ changes_of xs + changes_of ys
changes_of-append xs ys = sum_by-append (λ (x : Entry). changes_in x.event) xs ys

pub lent_of-append : (xs ys : List Entry) → lent_of (xs ++ ys) ≡ lent_of xs + lent_of ys
lent_of-append xs ys = sum_by-append (λ (x : Entry). units_lent x.outcome.answer) xs ys

-- totals with the entries of two lists added
more_of : (t : Totals) (xs ys : List Entry)
    → totals_with t (xs ++ ys) 0 ≡ totals_with (totals_with t xs 0) ys 0
more_of t xs ys =
    let datagrams : t.datagrams + datagrams_of (xs ++ ys)
    ≡ t.datagrams + datagrams_of xs + datagrams_of ys = omega (arith, datagrams_of-append xs ys) in
    let turns : t.turns + turns_of (xs ++ ys) ≡ t.turns + turns_of xs + turns_of ys =
    omega (arith, turns_of-append xs ys) in
    let lent : t.lent + lent_of (xs ++ ys) ≡ t.lent + lent_of xs + lent_of ys =
    omega (arith, lent_of-append xs ys) in
    let back : t.returned + 0 ≡ t.returned + 0 + 0 = omega arith in
    let changes : t.changes + changes_of (xs ++ ys) ≡ t.changes + changes_of xs + changes_of ys =
    omega (arith, changes_of-append xs ys) in
    λ i. record {
      datagrams = datagrams i;
      turns = turns i;
      lent = lent i;
      returned = back i;
      changes = changes i;
    }

with_nothing : (t : Totals) → totals_with t [] 0 ≡ t
with_nothing t =
    let datagrams : t.datagrams + 0 ≡ t.datagrams = omega arith in
    let turns : t.turns + 0 ≡ t.turns = omega arith in
    let lent : t.lent + 0 ≡ t.lent = omega arith in
    let back : t.returned + 0 ≡ t.returned = omega arith in
    let changes : t.changes + 0 ≡ t.changes = omega arith in
    λ i. record {
      datagrams = datagrams i;
      turns = turns i;
      lent = lent i;
      returned = back i;
      changes = changes i;
    }

-- The totals so far come to those of all chapters with the rest of them.
pub record IsSoFar (all : List ChapterValue) (totals : Totals) (rest : List ChapterValue)
    : Type 0 where
  pub sums : totals_with totals (entries_of rest) 0 ≡ totals_with no_totals (entries_of all) 0
  pub steps : totals.datagrams + totals.turns + totals.changes + length (entries_of rest)
      ≡ length (entries_of all)
  pub units : totals.lent ≤ 2 ^ 64 * (totals.datagrams + totals.turns + totals.changes)

module _ (all : List ChapterValue) (totals : Totals) (i : ℕ) where
  module _ (chapter : ChapterValue) (below : i < length all) (is : chapter ≡ get_or all i chapter)
      (so_far : IsSoFar all totals (drop i all)) where
    next : IsSoFar all totals (chapter ∷ drop (i + 1) all)
    next = subst (IsSoFar all totals) (cut_at all i chapter below is) so_far

    pub steps_left : totals.datagrams + totals.turns + totals.changes + length chapter.entries
        ≤ length (entries_of all)
    steps_left =
        omega (arith, next.steps, length-append chapter.entries (entries_of (drop (i + 1) all)))

    pub one_more : (after : Totals) → after ≡ totals_with totals chapter.entries 0
        → after.datagrams + after.turns + after.changes
        ≡ totals.datagrams + totals.turns + totals.changes + length chapter.entries
        → after.lent ≤ 2 ^ 64 * (after.datagrams + after.turns + after.changes)
        → IsSoFar all after (drop (i + 1) all)
    one_more after sums steps units = record {
      sums = ap (λ (t : Totals). totals_with t (entries_of (drop (i + 1) all)) 0) sums
          ∙ (sym (more_of totals chapter.entries (entries_of (drop (i + 1) all))) ∙ next.sums);
      steps = omega (
        arith,
        steps,
        next.steps,
        length-append chapter.entries (entries_of (drop (i + 1) all)),
      );
      units = units;
    }

  pub at_end : length all ≤ i → IsSoFar all totals (drop i all) → IsSoFar all totals []
  at_end past so_far = subst (IsSoFar all totals) (drop_of_length-le all past) so_far
