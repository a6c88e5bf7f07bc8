-- Births by places, and what a change of the rows does to them.
use Rattle.std.proofs.Common.{◌≡◌, ℕ, zero, suc, ◌+◌, Bool, true, false, List, [], ◌∷◌, ◌++◌}
use Rattle.std.proofs.Common.{refl, sym, ◌∙◌, ap, subst, cond, Some}
use Rattle.std.proofs.Common.{arith}
use Rattle.std.proofs.Math.ListN.{set}
use Rattle.std.specs.Prelude.{slice_get, swap_remove, position, nat_eq, IsTrue, IfSome}
use Rattle.std.specs.HashMap as hash
use Rattle.std.specs.List.{position_from}
use Rattle.std.specs.Option.{option_map}
use Rattle.std.specs.Map.{keys_of, values_of, set_value, lookup}
use Rattle.std.proofs.lemmas.Iterator.Adapters.{position_from-zero}
use Rattle.std.proofs.lemmas.List.{map-append}
use Rattle.std.proofs.lemmas.Bool.Decides.{Decides-eqb, Decides-like, same_from_decides}
use Rattle.std.proofs.lemmas.Option.{slice_get_within, slice_get-map}
use Rattle.indexmap.specs.IndexMap.{IndexMap}
use Rattle.indexmap.proofs.SetLemmas.{map-swap_remove}
use Rattle.keyed.proofs.Decide.{some_none, same_some}
use Rattle.kept_replies.specs.Kept.{birth_of}
use Rattle.kept_replies.specs.Keys.{same_key}
use Rattle.kept_replies.specs.inside.Births.{BirthTable, AreBorn, births_in}
use Rattle.kept_replies.specs.inside.Stored.{Rewrites, Appends}
use Rattle.kept_replies.specs.declared.entry.KeptEntry.{KeptEntry}
use Rattle.kept_replies.specs.declared.key.KeptKey.{KeptKey}

abbrev Rows : Type 0
Rows = List (KeptKey × KeptEntry)

-- a search by birth finds the place that one of the entries finds
pub same_place : (born : ℕ) (rows : Rows)
    → position (nat_eq born) (births_in rows)
    ≡ position (λ entry. nat_eq entry.born born) (values_of rows)
same_place born rows =
    position_from-zero (nat_eq born) (births_in rows)
    ∙ (from rows 0
    ∙ sym (position_from-zero (λ entry. nat_eq entry.born born) (values_of rows))) where
      turned : (a b : ℕ) → nat_eq a b ≡ nat_eq b a
      turned a b =
          same_from_decides (nat_eq a b) (nat_eq b a) (Decides-eqb a b)
          (Decides-like (nat_eq b a) sym sym (Decides-eqb b a))

      from : (es : Rows) (k : ℕ) → position_from (nat_eq born) k (births_in es)
          ≡ position_from (λ entry. nat_eq entry.born born) k (values_of es)
      from [] k = refl
      from (row ∷ es) k =
          (λ i. cond (turned born row.1.born i) (Some k)
          (position_from (nat_eq born) (k + 1) (births_in es)))
          ∙ ap (λ w. cond (nat_eq row.1.born born) (Some k) w) (from es (k + 1))

module _ (test : KeptKey → Bool) (w : KeptEntry) where
  -- an entry that is changed and keeps its birth
  pub births_kept : (rows : Rows) (was : KeptEntry) → lookup test rows ≡ Some was
      → w.born ≡ was.born → births_in (set_value test rows w) ≡ births_in rows
  births_kept [] was there same = refl
  births_kept (row ∷ rows) was there same =
      cases (test row.0) there (λ rest. births_kept rows was rest same) where
        cases : (b : Bool) → cond b (Some row.1) (lookup test rows) ≡ Some was
            → (lookup test rows ≡ Some was
            → births_in (set_value test rows w) ≡ births_in rows)
            → births_in (cond b ((row.0, w) ∷ rows) (row ∷ set_value test rows w))
            ≡ births_in (row ∷ rows)
        cases true is rest =
            ap (λ b. b ∷ births_in rows)
            (same ∙ sym (ap (λ (e : KeptEntry). e.born) (same_some row.1 was is)))
        cases false is rest = ap (λ bs. row.1.born ∷ bs) (rest is)

  written_from : (rows : Rows) (k i : ℕ) → position_from test k (keys_of rows) ≡ Some i
      → (j : ℕ) × (i ≡ k + j)
      × (births_in (set_value test rows w) ≡ set (births_in rows) j w.born)
  written_from [] k i is = some_none (sym is)
  written_from (row ∷ rows) k i is = cases (written_from rows (k + 1) i) (test row.0) is where
    cases : (position_from test (k + 1) (keys_of rows) ≡ Some i
        → (j : ℕ) × (i ≡ k + 1 + j)
        × (births_in (set_value test rows w) ≡ set (births_in rows) j w.born))
        → (b : Bool) → cond b (Some k) (position_from test (k + 1) (keys_of rows)) ≡ Some i
        → (j : ℕ) × (i ≡ k + j)
        × (births_in (cond b ((row.0, w) ∷ rows) (row ∷ set_value test rows w))
        ≡ set (births_in (row ∷ rows)) j w.born)
    cases rest true is =
        (let same = same_some k i is in (zero, omega (arith, same), refl))
    cases rest false is =
        (let found = rest is in
        (suc found.0, omega (arith, found.1), ap (λ bs. row.1.born ∷ bs) found.2))

  -- the birth at the place of the entry that is put
  pub births_written : (rows : Rows) (i : ℕ) → position test (keys_of rows) ≡ Some i
      → births_in (set_value test rows w) ≡ set (births_in rows) i w.born
  births_written rows i is =
      let found = written_from rows 0 i (sym (position_from-zero test (keys_of rows)) ∙ is) in
      let at : found.0 ≡ i = omega (arith, found.1) in
      subst (λ (j : ℕ). births_in (set_value test rows w) ≡ set (births_in rows) j w.born) at
      found.2

module _ {S : Type 0} (old new : IndexMap KeptKey KeptEntry S) (before after : BirthTable)
    (h : AreBorn old.entries before) where
  -- an entry is changed, and keeps its birth
  pub AreBorn-rewritten : (change : KeptEntry → KeptEntry) (key : KeptKey)
      → Rewrites change old new key → (was : KeptEntry) → hash.get same_key old key ≡ Some was
      → (change was).born ≡ was.born → AreBorn new.entries before
  AreBorn-rewritten change key r was there same whole =
      h whole
      ∙ (sym (births_kept (same_key key) (change was) old.entries was there same)
      ∙ ap births_in (sym (r.entries was there)))

  module _ (still : IsTrue after.is_whole → IsTrue before.is_whole) where
    -- another entry stands at a place
    pub AreBorn-replaced : (entry : KeptEntry) (key : KeptKey) (place : ℕ)
        → Rewrites (λ other. entry) old new key
        → Some place ≡ position (same_key key) (keys_of old.entries)
        → (was : KeptEntry) → hash.get same_key old key ≡ Some was
        → (IsTrue after.is_whole → after.births ≡ set before.births place entry.born)
        → AreBorn new.entries after
    AreBorn-replaced entry key place r at was there is whole =
        is whole
        ∙ (ap (λ bs. set bs place entry.born) (h (still whole))
        ∙ (sym (births_written (same_key key) entry old.entries place (sym at))
        ∙ ap births_in (sym (r.entries was there))))

    -- one more stands after the others
    pub AreBorn-appended : (row : KeptKey × KeptEntry) → Appends old.entries new.entries row
        → (IsTrue after.is_whole → after.births ≡ before.births ++ birth_of row ∷ [])
        → AreBorn new.entries after
    AreBorn-appended row rows is whole =
        is whole
        ∙ (ap (λ bs. bs ++ birth_of row ∷ []) (h (still whole))
        ∙ (sym (map-append birth_of old.entries (row ∷ [])) ∙ ap births_in (sym rows)))

    -- one goes, and the last comes in its place
    pub AreBorn-removed : (row : KeptKey × KeptEntry) (place : ℕ)
        → slice_get old.entries place ≡ Some row
        → new.entries ≡ swap_remove old.entries place row
        → IfSome (slice_get before.births place)
        (λ born. after.births ≡ swap_remove before.births place born)
        → AreBorn new.entries after
    AreBorn-removed row place there rows taken whole =
        let all = h (still whole) in
        let within = slice_get_within old.entries place row there in
        let found : slice_get before.births place ≡ Some (birth_of row) =
        ap (λ bs. slice_get bs place) all
        ∙ (slice_get-map birth_of old.entries place ∙ ap (option_map birth_of) there) in
        (rw found at taken)
        ∙ (ap (λ bs. swap_remove bs place (birth_of row)) all
        ∙ (sym (map-swap_remove birth_of old.entries place row (omega (arith, within)))
        ∙ ap births_in (sym rows)))
