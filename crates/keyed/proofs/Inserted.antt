-- An `indexmap` into which rows with keys of their own are put, one after the other: it has these
-- rows, in their order.
use Rattle.std.proofs.Common.{◌≡◌, ℕ, zero, suc, Bool, false, List}
use Rattle.std.proofs.Common.{[], ◌∷◌, ◌++◌, refl, sym, ◌∙◌, ap}
use Rattle.std.proofs.Common.{Some, arith, take, ◌+◌}
use Rattle.std.specs.Prelude.{slice_get}
use Rattle.std.specs.Bool.{Decides}
use Rattle.std.specs.List.{AllByRecursion}
use Rattle.std.specs.Map.{keys_of}
use Rattle.std.proofs.Math.Seq.{take-suc}
use Rattle.std.proofs.lemmas.Option.{get_or_from_slice_get, slice_get_within}
use Rattle.indexmap.specs.IndexMap.{insert_entry}
use Rattle.indexmap.proofs.MapLemmas.{insert_entry-absent}
use Rattle.keyed.specs.Places.{AreApart, row_in}
use Rattle.keyed.proofs.Decide.{some_none, test_false}
use Rattle.keyed.proofs.Entries.{key_of}
use Rattle.keyed.proofs.Rows.{apart_tail}

module _ {K V : Type 0} {eq : K → K → Bool} (decides : (a b : K) → Decides (eq a b) (a ≡ b)) where
  -- no row before this one has its key
  absent_before : (rows : List (K × V)) (i : ℕ) (x : K × V) → AreApart key_of (row_in rows)
      → slice_get rows i ≡ Some x → AllByRecursion (λ k. eq x.0 k ≡ false) (keys_of (take i rows))
  absent_before [] i x h there = some_none (sym there)
  absent_before (r ∷ rows) zero x h there = tt
  absent_before (r ∷ rows) (suc i) x h there = (
    test_false (eq x.0 r.0) (decides x.0 r.0)
        (λ same. (let first : suc i ≡ zero = h.apart (suc i) zero x r there refl same in
        omega (arith, first))),
    absent_before rows i x (apart_tail key_of r rows h) there,
  )

  -- the rows so far, and then the next
  pub insert_next : (rows : List (K × V)) (i : ℕ) (x : K × V) → AreApart key_of (row_in rows)
      → slice_get rows i ≡ Some x → insert_entry eq (take i rows) x.0 x.1 ≡ take (i + 1) rows
  insert_next rows i x h there =
      let next : suc i ≡ i + 1 = omega arith in
      insert_entry-absent eq x.0 x.1 (take i rows) (absent_before rows i x h there)
      ∙ (ap (λ last. take i rows ++ last ∷ []) (sym (get_or_from_slice_get rows i x x there))
      ∙ (sym (take-suc rows i x (slice_get_within rows i x there))
      ∙ ap (λ n. take n rows) next))
