-- A row that moves is written only where it stands in the end.
use Rattle.std.proofs.Common.{◌≡◌, ◌≢◌, ℕ, ◌<◌, ◌≤◌, List, length, get_or, set, sym, ap, subst}
use Rattle.std.proofs.Common.{◌∙◌, arith}
use Rattle.std.specs.List.{swap}
use Rattle.std.proofs.lemmas.List.{get_or-set_same, get_or-set_other, length-set, set-set}
use Rattle.std.proofs.lemmas.List.{set_comm, set-get_or}
use Rattle.std.proofs.lemmas.Option.{get_or_from_slice_get}
use Rattle.std.proofs.lemmas.List.Edits.{swap_is}
use Rattle.keyed.proofs.Decide.{by_place}
use Rattle.deadlines.specs.declared.due.Due.{Due}
use Rattle.deadlines.specs.inside.Heap.{moment_in, moments_of, IsParent, IsHeapAbove}
use Rattle.deadlines.specs.inside.Heap.{IsIndexed}
use Rattle.deadlines.proofs.Indexed.{IsIndexed-swapped, none_due, place_within, row, rows_swapped}
use Rattle.deadlines.proofs.Indexed.{stands}
use Rattle.deadlines.proofs.Indexed.{moments_swapped as map_swapped}
use Rattle.deadlines.proofs.Order.{IsHeapAbove-down, moments_swapped}

-- what was written at p first is written over
written_over : (at : List ℕ) (p q a b c : ℕ)
    → set (set (set at p a) q b) p c ≡ set (set at q b) p c
written_over at p q a b c =
    by_place p q (set (set (set at p a) q b) p c ≡ set (set at q b) p c)
    (λ e. subst (λ (k : ℕ). set (set (set at p a) k b) p c ≡ set (set at k b) p c) e
    (ap (λ (xs : List ℕ). set xs p c) (set-set at p a b)))
    (λ differ. ap (λ (xs : List ℕ). set xs p c) (set_comm at p q a b differ)
    ∙ set-set (set at q b) p a c)

-- a row that is written where it stands changes nothing
pub written_again : (rows : List Due) (i : ℕ) → set rows i (row rows i) ≡ rows
written_again rows i = set-get_or rows i none_due

pub marked_again : (rows : List Due) (at : List ℕ) (i : ℕ) → i < length rows → IsIndexed rows at
    → set at (row rows i).place i ≡ at
marked_again rows at i within h =
    let place = (row rows i).place in
    let is : get_or at place 0 ≡ i =
    get_or_from_slice_get at place i 0 (h.placed i (row rows i) (stands rows i within)) in
    ap (λ (n : ℕ). set at place n) (sym is) ∙ set-get_or at place 0

-- The row that moves is to be written at i: xs are the rows with it, and marks says where they
-- stand.
module _ (rows : List Due) (at : List ℕ) (moved : Due) (i : ℕ) (within : i < length rows) where
  abbrev pub xs : List Due
  xs = set rows i moved

  abbrev pub marks : List ℕ
  marks = set at moved.place i

  own : row xs i ≡ moved
  own = get_or-set_same rows i moved none_due within

  other : (j : ℕ) → j ≢ i → row xs j ≡ row rows j
  other j differ = get_or-set_other rows i j moved none_due differ

  xs_length : length xs ≡ length rows
  xs_length = length-set rows i moved

  pub moved-place_within : IsIndexed xs marks → moved.place < length at
  moved-place_within h = omega (
    arith,
    place_within xs marks h i (omega (arith, within, xs_length)),
    ap (λ (r : Due). r.place) own,
    length-set at moved.place i,
  )

  -- the row at k, below i, goes up in its place
  module _ (k : ℕ) (below : k < length rows) (parent : IsParent i k) where
    abbrev pub ys : List Due
    ys = set (set rows i (row rows k)) k moved

    abbrev pub next_marks : List ℕ
    next_marks = set (set at (row rows k).place i) moved.place k

    k_i : k ≢ i
    k_i = omega (arith, parent)

    are_swapped : ys ≡ swap xs i k
    are_swapped =
        ap (λ (zs : List Due). set zs k moved) (sym (set-set rows i moved (row rows k)))
        ∙ (λ j. set (set xs i (sym (other k k_i) j)) k (sym own j))
        ∙ swap_is xs i k none_due (omega (arith, within, xs_length))
        (omega (arith, below, xs_length))

    ys_length : length ys ≡ length xs
    ys_length = length-set (set rows i (row rows k)) k moved ∙ length-set rows i (row rows k)
        ∙ sym xs_length

    module _ (h : IsIndexed xs marks) where
      pub next_place_within : (row rows k).place < length at
      next_place_within = omega (
        arith,
        place_within xs marks h k (omega (arith, below, xs_length)),
        ap (λ (r : Due). r.place) (other k k_i),
        length-set at moved.place i,
      )

      pub moved-indexed : IsIndexed ys next_marks
      moved-indexed =
          let p : i < length xs = omega (arith, within, xs_length) in
          let q : k < length xs = omega (arith, below, xs_length) in
          let s = rows_swapped xs ys i k p q are_swapped in
          subst (λ (ms : List ℕ). IsIndexed ys ms)
          ((λ j. set (set marks ((s.0 ∙ other k k_i) j).place i) ((s.1 ∙ own) j).place k)
          ∙ written_over at moved.place (row rows k).place i i k)
          (IsIndexed-swapped xs ys marks i k p q ys_length s h
          (length-set marks (row ys i).place i))

      pub moved-moments : moments_of ys ≡ moments_of xs
      moved-moments =
          let p : i < length xs = omega (arith, within, xs_length) in
          let q : k < length xs = omega (arith, below, xs_length) in
          map_swapped xs ys marks i k p q ys_length (rows_swapped xs ys i k p q are_swapped) h
          next_marks moved-indexed

    pub moved-down : IsHeapAbove xs i
        → ((j : ℕ) → IsParent i j → j < length rows → moment_in rows k ≤ moment_in rows j)
        → moment_in rows k < moved.moment → IsHeapAbove ys k
    moved-down h least later =
        let p : i < length xs = omega (arith, within, xs_length) in
        let q : k < length xs = omega (arith, below, xs_length) in
        let here = ap (λ (r : Due). r.moment) (other k k_i) in
        IsHeapAbove-down xs ys i k h parent q
        (λ j ij jn. omega (
          arith,
          here,
          ap (λ (r : Due). r.moment) (other j (omega (arith, ij))),
          least j ij (omega (arith, jn, xs_length)),
        ))
        (omega (arith, here, ap (λ (r : Due). r.moment) own, later))
        ys_length (moments_swapped xs ys i k p q are_swapped)
