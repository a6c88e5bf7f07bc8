-- What is kept, by birth.
use Rattle.std.proofs.Common.{◌≡◌, ℕ, List, refl, sym, ◌∙◌, ap, subst, cond, Some, None, Option}
use Rattle.std.proofs.Common.{Bool, true, false, ◌+◌, [], ◌∷◌}
use Rattle.std.specs.Prelude.{slice_get, MatchOption, nat_eq, is_some, not, IsTrue, ◌↔◌, position}
use Rattle.std.specs.List.{position_from}
use Rattle.std.specs.Map.{values_of}
use Rattle.std.specs.Option.{option_and_then, IsSomeAnd}
use Rattle.std.specs.FinMap as fin
use Rattle.std.specs.FinMap.{nat_cmp-IsAntisymmetric}
use Rattle.std.specs.HashMap as hash
use Rattle.std.proofs.lemmas.Cmp.{nat_cmp_total}
use Rattle.std.proofs.lemmas.Bool.Decides.{Decides-eqb}
use Rattle.std.proofs.lemmas.Iterator.Adapters.{position_from-zero}
use Rattle.indexmap.specs.IndexMap.{IndexMap}
use Rattle.keyed.specs.Places.{AreApart, row_in, IsPlaceOf}
use Rattle.keyed.proofs.Decide.{some_none, same_some}
use Rattle.keyed.proofs.Listed as listed
use Rattle.keyed.proofs.Places.{IsMapOf}
use Rattle.keyed.proofs.Rows.{IsMapOf-rows}
use Rattle.keyed.proofs.Searches.{key_place, placed_row}
use Rattle.kept_replies.specs.Keys.{same_key}
use Rattle.kept_replies.specs.Kept.{KeptReplies, KeptTable, AreBornApart, IsBusy, IsConsistent}
use Rattle.kept_replies.specs.Kept.{IsFreeBirth, is_over, Passes, NonePasses, births, births_of}
use Rattle.kept_replies.specs.Kept.{birth_of, itself}
use Rattle.kept_replies.specs.inside.Stored.{AreStored, NoRowPasses, RowPasses, key_of}
use Rattle.kept_replies.specs.declared.entry.KeptEntry.{KeptEntry}
use Rattle.kept_replies.specs.declared.key.KeptKey.{KeptKey}
use Rattle.kept_replies.proofs.KeyOrder.{key_cmp_total, key_cmp-IsAntisymmetric, key_decides}
use Rattle.kept_replies.proofs.StoredKept.{rows_of, table_of}

-- what holds of births, for each map whose entries don't share one
module _ (m : KeptReplies) (h : AreBornApart m) where
  apart : AreApart birth_of (row_in (fin.entries m))
  apart =
      listed.AreApart-part key_cmp_total key_cmp-IsAntisymmetric nat_cmp_total
      nat_cmp-IsAntisymmetric birth_of m (λ k q v w a b e. h k q v w a b e) (fin.entries m)
      (listed.AreApart-listed key_cmp_total key_cmp-IsAntisymmetric m)
      (listed.IsMapOf-listed key_cmp_total key_cmp-IsAntisymmetric m)

  -- an entry is found by its birth
  pub births-get : (key : KeptKey) (entry : KeptEntry) → fin.get m key ≡ Some entry
      → fin.get (births m) entry.born ≡ Some (key, entry)
  births-get key entry there =
      listed.by_part key_cmp_total key_cmp-IsAntisymmetric nat_cmp_total nat_cmp-IsAntisymmetric
      birth_of m (fin.entries m) apart
      (listed.IsMapOf-listed key_cmp_total key_cmp-IsAntisymmetric m) key entry there

  -- what is found by a birth is an entry with that birth
  pub births-has : (born : ℕ) (row : KeptKey × KeptEntry) → fin.get (births m) born ≡ Some row
      → (fin.get m row.0 ≡ Some row.1) × (row.1.born ≡ born)
  births-has born row there =
      listed.has_part key_cmp_total key_cmp-IsAntisymmetric nat_cmp_total nat_cmp-IsAntisymmetric
      birth_of m (fin.entries m) apart
      (listed.IsMapOf-listed key_cmp_total key_cmp-IsAntisymmetric m) born row there

module _ {S : Type 0} (rows : IndexMap KeptKey KeptEntry S) (most : ℕ) (s : AreStored rows most)
  where
    is_map : IsMapOf key_of (λ (r : KeptKey × KeptEntry). r.1) (row_in rows.entries) (rows_of rows)
    is_map = listed.IsMapOf-pairs key_cmp_total key_cmp-IsAntisymmetric rows.entries s.apart

    -- no two rows share a birth
    pub born_apart : AreApart birth_of (row_in rows.entries)
    born_apart =
        listed.AreApart-part key_cmp_total key_cmp-IsAntisymmetric nat_cmp_total
        nat_cmp-IsAntisymmetric birth_of (rows_of rows)
        (λ k q v w a b e. s.births k q v w a b e) rows.entries s.apart is_map

    -- the births of what is stored are those of the map
    pub births_stored : births_of rows.entries ≡ births (rows_of rows)
    births_stored =
        listed.one_by_part key_cmp_total key_cmp-IsAntisymmetric nat_cmp_total
        nat_cmp-IsAntisymmetric birth_of (rows_of rows) rows.entries (fin.entries (rows_of rows))
        born_apart (apart (rows_of rows) s.births) is_map
        (listed.IsMapOf-listed key_cmp_total key_cmp-IsAntisymmetric (rows_of rows))

    -- if no row passes a test, nothing that is kept does
    pub none_kept_passes : (test : KeptEntry → Bool) → NoRowPasses test rows.entries
        → NonePasses test (rows_of rows)
    none_kept_passes test none key entry there =
        let at = is_map.stands key entry there in
        sym (ap test at.2.value_is) ∙ none at.0 at.1 at.2.there

    -- a row that passes it is kept
    pub kept_passes : (test : KeptEntry → Bool) (born : ℕ) → RowPasses test rows.entries born
        → Passes test (rows_of rows) born
    kept_passes test born h =
        some_and (fin.get (births (rows_of rows)) born) h.row
        (ap (fin.get (births (rows_of rows))) (sym h.is_born)
        ∙ births-get (rows_of rows) s.births h.row.0 h.row.1 (is_map.has h.place h.row h.there))
        h.passes
      where
        some_and : (w : Option (KeptKey × KeptEntry)) (row : KeptKey × KeptEntry) → w ≡ Some row
            → test row.1 ≡ true → IsSomeAnd w (λ row. IsTrue (test row.1))
        some_and None row is passes = some_none (sym is)
        some_and (Some other) row is passes =
            ap (λ (row : KeptKey × KeptEntry). test row.1) (same_some other row is) ∙ passes

-- a search of the values finds the place that one of the rows finds
position_values : (test : KeptEntry → Bool) (es : List (KeptKey × KeptEntry))
    → position test (values_of es) ≡ position (λ row. test row.1) es
position_values test es =
    position_from-zero test (values_of es)
    ∙ (from es 0 ∙ sym (position_from-zero (λ row. test row.1) es)) where
      from : (es : List (KeptKey × KeptEntry)) (k : ℕ)
          → position_from test k (values_of es) ≡ position_from (λ row. test row.1) k es
      from [] k = refl
      from (row ∷ es) k = ap (λ w. cond (test row.1) (Some k) w) (from es (k + 1))

module _ {S : Type 0} (rows : IndexMap KeptKey KeptEntry S) (most : ℕ) (t : KeptTable)
    (s : AreStored rows most) (view : table_of rows most ≡ t) where
  pub births_are : births_of rows.entries ≡ births t.kept
  births_are = births_stored rows most s ∙ ap (λ u. births u.kept) view

  -- the row at the place that a search by birth finds
  pub row_born : (born : ℕ) (place : Option ℕ)
      → place ≡ position (λ entry. nat_eq entry.born born) (hash.values rows)
      → option_and_then (λ i. slice_get rows.entries i) place ≡ fin.get (births t.kept) born
  row_born born place is =
      cases place (subst (λ (w : Option ℕ). MatchOption w
      (fin.get (births_of rows.entries) born ≡ None) (IsPlaceOf birth_of born rows.entries))
      (sym (is ∙ position_values (λ entry. nat_eq entry.born born) rows.entries))
      (key_place nat_cmp_total nat_cmp-IsAntisymmetric birth_of itself nat_eq Decides-eqb born
      rows.entries))
      ∙ ap (λ n. fin.get n born) births_are where
        cases : (w : Option ℕ) → MatchOption w (fin.get (births_of rows.entries) born ≡ None)
            (IsPlaceOf birth_of born rows.entries)
            → option_and_then (λ i. slice_get rows.entries i) w
            ≡ fin.get (births_of rows.entries) born
        cases None h = sym h
        cases (Some i) h =
            let row = placed_row birth_of born rows.entries i h in
            let of = IsMapOf-rows nat_cmp_total nat_cmp-IsAntisymmetric birth_of itself
            rows.entries (born_apart rows most s) in
            row.1 ∙ (sym (of.has i row.0 row.1)
            ∙ ap (fin.get (births_of rows.entries)) row.2)

  -- what a search of the rows says of the table
  pub search_born : (test : KeptEntry → Bool) (found : Option ℕ)
      → MatchOption found (NoRowPasses test rows.entries) (RowPasses test rows.entries)
      → MatchOption found (NonePasses test t.kept) (Passes test t.kept)
  search_born test found h =
      subst (λ (u : KeptTable). MatchOption found (NonePasses test u.kept) (Passes test u.kept))
      view (cases found h) where
        cases : (w : Option ℕ)
            → MatchOption w (NoRowPasses test rows.entries) (RowPasses test rows.entries)
            → MatchOption w (NonePasses test (rows_of rows)) (Passes test (rows_of rows))
        cases None none = none_kept_passes rows most s test none
        cases (Some born) passes = kept_passes rows most s test born passes

-- what holds of a consistent table by its births
module _ (t : KeptTable) (sound : IsConsistent t) where
  -- if no entry passes a test, none that is found by a birth does
  pub none_passes : (test : KeptEntry → Bool) (born : ℕ) → NonePasses test t.kept
      → Passes test t.kept born → ⊥
  none_passes test born none h = passing (fin.get (births t.kept) born) refl h where
    passing : (w : Option (KeptKey × KeptEntry)) → fin.get (births t.kept) born ≡ w
        → IsSomeAnd w (λ row. IsTrue (test row.1)) → ⊥
    passing None at h = h
    passing (Some row) at h =
        let there = births-has t.kept sound.births born row at in
        cc (h, none row.0 row.1 there.0)

  -- there is no place, and none becomes free
  pub busy : (now : ℕ) (found : Option ℕ) (none : Bool) → fin.len t.kept ≡ t.most
      → MatchOption found (NonePasses (is_over now) t.kept) (Passes (is_over now) t.kept)
      → is_some found ≡ not none → IsTrue none ↔ IsBusy t now
  busy now None false full is test = absurd (cc test)
  busy now None true full is test = (λ h. record { full = full; none_over = is }, λ b. refl)
  busy now (Some born) true full is test = absurd (cc test)
  busy now (Some born) false full is test =
      (λ h. absurd (cc h), λ b. absurd (none_passes (is_over now) born b.none_over is))

  -- a birth that no entry has, or that of this datagram's own entry
  pub free : (key : KeptKey) (born : ℕ) (found : Option (KeptKey × KeptEntry)) (is : Bool)
      → found ≡ fin.get (births t.kept) born
      → MatchOption found (is ≡ true) (λ row. is ≡ same_key row.0 key)
      → IsTrue is ↔ IsFreeBirth t.kept key born
  free key born None is at test = (
    λ h other entry there born_is.
        some_none (sym (births-get t.kept sound.births other entry there)
        ∙ (ap (fin.get (births t.kept)) born_is ∙ sym at)),
    λ h. test,
  )
  free key born (Some row) is at test = (
    λ h other entry there born_is.
        (let same = (key_decides row.0 key).0 (sym test ∙ h) in
        let found = same_some row (other, entry) (at
        ∙ (ap (fin.get (births t.kept)) (sym born_is)
        ∙ births-get t.kept sound.births other entry there)) in
        sym (ap key_of found) ∙ same),
    λ h.
        (let has = births-has t.kept sound.births born row (sym at) in
        test ∙ (key_decides row.0 key).1 (h row.0 row.1 has.0 has.1)),
  )
