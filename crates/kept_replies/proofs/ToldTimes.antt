-- How often identifiers are told, and what a change of the rows does to it.
use Rattle.std.proofs.Common.{◌≡◌, ℕ, ◌+◌, Bool, true, false, cond, List, [], ◌∷◌}
use Rattle.std.proofs.Common.{◌||◌, get_or, refl, ◌∙◌, ap, Some, arith}
use Rattle.std.specs.Prelude.{slice_get, swap_remove, nat_lt, IsTrue, Result, Ok, Err, OnOk, is_ok}
use Rattle.std.specs.HashMap as hash
use Rattle.std.specs.List.{list_any, sum_by}
use Rattle.std.specs.Map.{values_of}
use Rattle.std.specs.Option.{option_map}
use borrow.Author.Tests.{lt-ltb}
use Rattle.std.proofs.lemmas.List.{map-append, length-map}
use Rattle.std.proofs.lemmas.List.Sums.{sum_by-append, sum_by-swap_remove, sum_by-cons}
use Rattle.std.proofs.lemmas.Map.Entries.{sum_by-set_value}
use Rattle.std.proofs.lemmas.Option.{slice_get_within, slice_get-map, get_or_from_slice_get}
use Rattle.indexmap.specs.IndexMap.{IndexMap}
use Rattle.indexmap.proofs.SetLemmas.{map-swap_remove}
use Rattle.kept_replies.specs.Kept.{named_by, reply_in, postponed_in}
use Rattle.kept_replies.specs.Told.{identifier_in}
use Rattle.kept_replies.specs.declared.entry.KeptState.{KeptState}
use Rattle.kept_replies.specs.declared.entry.KeptState.TheVariants.{Done, Pending}
use Rattle.kept_replies.specs.Keys.{same_key}
use Rattle.kept_replies.specs.inside.Stored.{Rewrites, Appends, is_named_by}
use Rattle.kept_replies.specs.inside.Told.{ToldTable, AreTold, times, once}
use Rattle.kept_replies.specs.inside.Told.{times_in}
use Rattle.kept_replies.specs.declared.entry.KeptEntry.{KeptEntry}
use Rattle.kept_replies.specs.declared.key.KeptKey.{KeptKey}

-- what holds if a call succeeded, of one that did
pub on_ok : {A E : Type 0} (answer : Result A E) (P : Type 0) → OnOk answer P
    → is_ok answer ≡ true → P
on_ok (Ok a) P h ok = h
on_ok (Err e) P h ok = absurd (cc ok)

abbrev Rows : Type 0
Rows = List (KeptKey × KeptEntry)

-- an identifier is told more than 0 times if and only if a row tells it
pub some_tell : (id : List ℕ) (rows : Rows)
    → nat_lt 0 (times_in rows id) ≡ list_any (λ row. is_named_by id row.1) rows
some_tell id [] = refl
some_tell id (row ∷ rows) =
    ap (nat_lt 0) (sum_by-cons (λ (e : KeptEntry). cond (is_named_by id e) 1 0) row.1
    (values_of rows))
    ∙ cases (is_named_by id row.1) (some_tell id rows) where
      cases : (b : Bool) → nat_lt 0 (times_in rows id) ≡ list_any (λ row. is_named_by id row.1) rows
          → nat_lt 0 (cond b 1 0 + times_in rows id)
          ≡ (b || list_any (λ row. is_named_by id row.1) rows)
      cases true rest = lt-ltb 0 (1 + times_in rows id) (omega arith)
      cases false rest = ap (nat_lt 0) (omega arith) ∙ rest

abbrev tells : List ℕ → KeptEntry → ℕ
tells id entry = cond (is_named_by id entry) 1 0

-- a request that waits once more has the reply that it had
pub named_postponed : (moment : ℕ) (s : KeptState)
    → identifier_in (reply_in (postponed_in moment s)) ≡ identifier_in (reply_in s)
named_postponed moment (Done reply until) = refl
named_postponed moment (Pending request reply retry left) = refl

-- the next row is counted
pub times_next : (id : List ℕ) (rows rest : Rows) (row : KeptKey × KeptEntry) → rows ≡ row ∷ rest
    → times_in rows id ≡ once (named_by row.1) id + times_in rest id
times_next id rows rest row is =
    ap (λ (es : Rows). times_in es id) is ∙ sum_by-cons (tells id) row.1 (values_of rest)

module _ {S : Type 0} (old new : IndexMap KeptKey KeptEntry S) (before after : ToldTable)
    (h : AreTold old.entries before) (still : IsTrue after.is_whole → IsTrue before.is_whole) where
  -- an entry is changed
  pub AreTold-rewritten : (change : KeptEntry → KeptEntry) (key : KeptKey)
      → Rewrites change old new key → (was : KeptEntry) → hash.get same_key old key ≡ Some was
      → (IsTrue after.is_whole → (id : List ℕ) → times after id + once (named_by was) id
      ≡ times before id + once (named_by (change was)) id)
      → AreTold new.entries after
  AreTold-rewritten change key r was there is whole id =
      let written = ap (λ (es : Rows). times_in es id) (r.entries was there) in
      omega (
        arith,
        is whole id,
        h (still whole) id,
        written,
        sum_by-set_value (tells id) (same_key key) old.entries was (change was) there,
      )

  -- one more stands after the others
  pub AreTold-appended : (row : KeptKey × KeptEntry) → Appends old.entries new.entries row
      → (IsTrue after.is_whole → (id : List ℕ)
      → times after id ≡ times before id + once (named_by row.1) id)
      → AreTold new.entries after
  AreTold-appended row rows is whole id =
      let added : times_in new.entries id ≡ times_in old.entries id + tells id row.1 =
      ap (λ (es : Rows). times_in es id) rows
      ∙ (ap (λ es. sum_by (tells id) es)
      (map-append (λ (e : KeptKey × KeptEntry). e.1) old.entries (row ∷ []))
      ∙ (sum_by-append (tells id) (values_of old.entries) (row.1 ∷ []) ∙ omega arith)) in
      omega (arith, is whole id, h (still whole) id, added)

  -- one goes, and the last comes in its place
  pub AreTold-removed : (row : KeptKey × KeptEntry) (place : ℕ)
      → slice_get old.entries place ≡ Some row
      → new.entries ≡ swap_remove old.entries place row
      → (IsTrue after.is_whole → (id : List ℕ)
      → times after id + once (named_by row.1) id ≡ times before id)
      → AreTold new.entries after
  AreTold-removed row place there rows is whole id =
      let value = λ (e : KeptKey × KeptEntry). e.1 in
      let within = slice_get_within old.entries place row there in
      let moved : times_in new.entries id
      ≡ sum_by (tells id) (swap_remove (values_of old.entries) place row.1) =
      ap (λ (es : Rows). times_in es id) rows
      ∙ ap (λ es. sum_by (tells id) es)
      (map-swap_remove value old.entries place row (omega (arith, within))) in
      let own : get_or (values_of old.entries) place row.1 ≡ row.1 =
      get_or_from_slice_get (values_of old.entries) place row.1 row.1
      (slice_get-map value old.entries place ∙ ap (option_map value) there) in
      omega (
        arith,
        is whole id,
        h (still whole) id,
        moved,
        sum_by-swap_remove (tells id) (values_of old.entries) place row.1
            (omega (arith, within, length-map old.entries value)),
        ap (tells id) own,
      )
