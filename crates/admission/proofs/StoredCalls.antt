-- What a change of one call does to the stored calls.
use Rattle.std.proofs.Common.{◌≡◌, ◌≢◌, ℕ, rules, ◌+◌, ◌-◌, ◌*◌, ◌^◌}
use Rattle.std.proofs.Common.{◌<◌, ◌≤◌, ◌↔◌, List, length, refl}
use Rattle.std.proofs.Common.{IfSome, sym, ◌∙◌, ap, subst, Some, None, arith}
use Rattle.std.specs.Prelude.{Option, MatchOption, IsSome, slice_get, Bool, true, false, nat_eq}
use Rattle.std.specs.Prelude.{is_some, if◌then◌else◌}
use Rattle.std.specs.FinMap as fin
use Rattle.std.specs.List.{sum_by, find}
use Rattle.std.specs.Option.{option_map}
use Rattle.std.specs.HashMap as hash
use Rattle.indexmap.specs.IndexMap.{IndexMap, spare}
use Rattle.keyed.specs.Maps.{total, update}
use Rattle.keyed.specs.Places.{AreApart, row_in}
use Rattle.keyed.proofs.Decide.{some_none, same_some}
use Rattle.keyed.proofs.Maps as maps
use Rattle.keyed.proofs.Places.{IsMapOf}
use Rattle.keyed.proofs.Rows.{IsMapOf-rows, FindsIn, finds_in}
use Rattle.keyed.proofs.Values.{total_le}
use Rattle.ras_module.specs.CallKeys.{same_call_key}
use Rattle.ras_module.specs.Same.{call_key_decides}
use Rattle.ras_module.specs.declared.call_key.CallKey.{CallKey}
use Rattle.ras_module.proofs.CallKeyOrder.{call_key_cmp_total, call_key_cmp-IsAntisymmetric}
use Rattle.admission.specs.declared.table.TheConstants.Calls as calls_table
use Rattle.admission.specs.declared.call.Call.{Call}
use Rattle.admission.specs.Calls.{OpenCalls, CallTable, EachCall, units_from, has_leg, legs_in}
use Rattle.admission.specs.Calls.{leg_at, IsInNoCall, IsCall, IsConsistent, AreNumbered, Becomes}
use Rattle.admission.specs.Calls.{Adds, key_of, open_calls_of}
use Rattle.admission.specs.Legs.{leg_of}
use Rattle.admission.specs.inside.Stored.{AreStored, Rewrites}
use Rattle.keyed.proofs.Entries.{value_of, entries_again, AreApart-entries, get_entries}
use Rattle.keyed.proofs.Entries.{len_entries, total_entries, entries_insert, entries_remove}

abbrev pub open_of : {S : Type 0} → IndexMap CallKey Call S → OpenCalls
open_of calls = open_calls_of calls.entries

pub get_call : {S : Type 0} (calls : IndexMap CallKey Call S) (key : CallKey)
    → hash.get same_call_key calls key ≡ fin.get (open_of calls) key
get_call calls key = sym
    (get_entries call_key_decides call_key_cmp_total call_key_cmp-IsAntisymmetric calls.entries key)

module _ (P : Call → Type 0) where
  pub EachCall-insert : (m : OpenCalls) (key : CallKey) (call : Call) → EachCall P m → P call
      → EachCall P (fin.insert m key call)
  EachCall-insert m key call each is k c there =
      let change = maps.Changed-insert call_key_cmp_total call_key_cmp-IsAntisymmetric m key call in
      maps.by_key call_key_cmp_total call_key_cmp-IsAntisymmetric k key (P c)
      (λ p. subst P (same_some call c (sym change.here
      ∙ subst (λ (x : CallKey). fin.get (fin.insert m key call) x ≡ Some c) p there)) is)
      (λ differ. each k c (sym (change.others k differ) ∙ there))

  pub EachCall-remove : (m : OpenCalls) (key : CallKey) → EachCall P m
      → EachCall P (fin.remove m key)
  EachCall-remove m key each k c there =
      let change = maps.Changed-remove call_key_cmp_total call_key_cmp-IsAntisymmetric m key in
      maps.by_key call_key_cmp_total call_key_cmp-IsAntisymmetric k key (P c)
      (λ p. absurd (cc (sym change.here
      ∙ subst (λ (x : CallKey). fin.get (fin.remove m key) x ≡ Some c) p there)))
      (λ differ. each k c (sym (change.others k differ) ∙ there))

pub AreStored-empty : {S : Type 0} (calls : IndexMap CallKey Call S) (most : ℕ) → hash.IsEmpty calls
    → most ≤ calls_table.MOST → AreStored calls most
AreStored-empty calls most empty few =
    let none : open_of calls ≡ fin.empty = ap open_calls_of empty in
    record {
      each =
          λ k c there. absurd (cc (sym there ∙ (ap (λ m. fin.get m k) none ∙ fin.get-empty _ k)));
      apart = subst (λ (es : List (CallKey × Call)). AreApart key_of (row_in es)) (sym empty)
          (record { apart = λ i j r t p q e. some_none (sym p) });
      few = omega (arith, ap length empty);
      most_few = few;
    }

-- the same entries
pub AreStored-same : {S : Type 0} (old new : IndexMap CallKey Call S) (most : ℕ)
    → AreStored old most → new.entries ≡ old.entries → AreStored new most
AreStored-same old new most s is = record {
  each = λ k c there. s.each k c (ap (λ es. fin.get (open_calls_of es) k) (sym is) ∙ there);
  apart = subst (λ (es : List (CallKey × Call)). AreApart key_of (row_in es)) (sym is) s.apart;
  few = omega (arith, ap length is, s.few);
  most_few = s.most_few;
}

module _ {S : Type 0} (old new : IndexMap CallKey Call S) (most : ℕ) (s : AreStored old most)
    (key : CallKey) (unique : hash.IsUnique same_call_key new) where
  -- a call is opened
  pub AreStored-open : (call : Call) → hash.Updates same_call_key old new key (Some call)
      → length new.entries ≡ length old.entries + 1 → length old.entries ≢ most
      → IsCall call → AreStored new most
  AreStored-open call u longer room is =
      let map_is = entries_insert call_key_decides call_key_cmp_total call_key_cmp-IsAntisymmetric
      old new key call u in
      record {
        each = λ k c there. EachCall-insert IsCall (open_of old) key call s.each is k c
            (ap (λ m. fin.get m k) (sym map_is) ∙ there);
        apart = AreApart-entries call_key_decides new.entries unique;
        few = omega (arith, longer, s.few, room);
        most_few = s.most_few;
      }

  -- a call is changed
  pub AreStored-change : (now : Call) → hash.Updates same_call_key old new key (Some now)
      → length new.entries ≡ length old.entries → IsCall now → AreStored new most
  AreStored-change now u same_length is =
      let map_is = entries_insert call_key_decides call_key_cmp_total call_key_cmp-IsAntisymmetric
      old new key now u in
      record {
        each = λ k c was. EachCall-insert IsCall (open_of old) key now s.each is k c
            (ap (λ m. fin.get m k) (sym map_is) ∙ was);
        apart = AreApart-entries call_key_decides new.entries unique;
        few = omega (arith, same_length, s.few);
        most_few = s.most_few;
      }

  -- a call ends
  pub AreStored-end : hash.Updates same_call_key old new key None
      → length new.entries + 1 ≡ length old.entries → AreStored new most
  AreStored-end u shorter =
      let map_is = entries_remove call_key_decides call_key_cmp_total call_key_cmp-IsAntisymmetric
      old new key u in
      record {
        each = λ k c was. EachCall-remove IsCall (open_of old) key s.each k c
            (ap (λ m. fin.get m k) (sym map_is) ∙ was);
        apart = AreApart-entries call_key_decides new.entries unique;
        few = omega (arith, shorter, s.few);
        most_few = s.most_few;
      }

pub longer_by_one : {X : Type 0} (x : Option X) (n m : ℕ)
    → n ≡ m + (if is_some x then 0 else 1) → x ≡ None → n ≡ m + 1
longer_by_one None n m e none = e
longer_by_one (Some x) n m e none = absurd (cc none)

pub shorter_by_one : {X : Type 0} (x : Option X) (n m : ℕ) (y : X)
    → n + (if is_some x then 1 else 0) ≡ m → x ≡ Some y → n + 1 ≡ m
shorter_by_one None n m y e is = absurd (cc is)
shorter_by_one (Some x) n m y e is = e

-- the value of a table by what is stored
abbrev pub table_of : {S : Type 0} → IndexMap CallKey Call S → ℕ → CallTable
table_of calls most = record {
  calls = open_of calls;
  most = most;
  room = spare calls;
  order = calls.entries;
}

pub IsConsistent-stored : {S : Type 0} (calls : IndexMap CallKey Call S) (most : ℕ) (t : CallTable)
    → AreStored calls most → table_of calls most ≡ t → IsConsistent t
IsConsistent-stored calls most t s view = subst IsConsistent view (record {
  each = s.each;
  few = omega (
    arith,
    len_entries call_key_decides call_key_cmp_total call_key_cmp-IsAntisymmetric
        calls.entries s.apart,
    s.few,
  );
  most = s.most_few;
})

pub AreNumbered-stored : {S : Type 0} (calls : IndexMap CallKey Call S) (most : ℕ) (t : CallTable)
    → AreStored calls most → table_of calls most ≡ t → AreNumbered t
AreNumbered-stored calls most t s view =
    subst AreNumbered view (record { all = refl; once = s.apart })

-- the calls after a change of one that is stored
module _ {S : Type 0} (old new : IndexMap CallKey Call S) (key : CallKey) where
  pub calls_put : (call : Call) → hash.Updates same_call_key old new key (Some call)
      → open_of new ≡ fin.insert (open_of old) key call
  calls_put call u = entries_insert call_key_decides call_key_cmp_total call_key_cmp-IsAntisymmetric
      old new key call u

  pub calls_removed : hash.Updates same_call_key old new key None
      → open_of new ≡ fin.remove (open_of old) key
  calls_removed u = entries_remove call_key_decides call_key_cmp_total call_key_cmp-IsAntisymmetric
      old new key u

  pub calls_rewritten : (change : Call → Call) → Rewrites change old new key → (call : Call)
      → fin.get (open_of old) key ≡ Some call
      → open_of new ≡ fin.insert (open_of old) key (change call)
  calls_rewritten change r call there =
      calls_put (change call) (r.updates call (get_call old key ∙ there))

  pub calls_updated : (change : Call → Call) → Rewrites change old new key → (call : Call)
      → fin.get (open_of old) key ≡ Some call → open_of new ≡ update (open_of old) key change
  calls_updated change r call there =
      calls_rewritten change r call there
      ∙ sym (maps.update_there call_key_cmp_total call_key_cmp-IsAntisymmetric
      (open_of old) key call change there)

module _ {S : Type 0} (old new : IndexMap CallKey Call S) (key : CallKey) (most : ℕ) (t : CallTable)
    (view : table_of old most ≡ t) where
  pub stored_call : (call : Call) → Some call ≡ fin.get t.calls key
      → fin.get (open_of old) key ≡ Some call
  stored_call call is = ap (λ u. fin.get u.calls key) view ∙ sym is

  -- one call is rewritten
  pub AreStored-rewrite : (change : Call → Call) → Rewrites change old new key → (call : Call)
      → Some call ≡ fin.get t.calls key
      → AreStored old most → (IsCall call → IsCall (change call)) → AreStored new most
  AreStored-rewrite change r call is s keeps =
      let there = stored_call call is in
      AreStored-change old new most s key r.unique (change call)
      (r.updates call (get_call old key ∙ there)) r.same_length (keeps (s.each key call there))

  pub Becomes-rewrite : AreStored new most
      → (change : Call → Call) → Rewrites change old new key → (call : Call)
      → Some call ≡ fin.get t.calls key
      → Becomes t (table_of new most) (fin.insert t.calls key (change call))
  Becomes-rewrite stored change r call is = subst (λ (u : CallTable). Becomes u (table_of new most)
      (fin.insert u.calls key (change call))) view (record {
        rows =
            entries_insert call_key_decides call_key_cmp_total call_key_cmp-IsAntisymmetric old new
            key (change call) (r.updates call (get_call old key ∙ stored_call call is));
        most = refl;
        room = omega (arith, r.same_room);
        sound = IsConsistent-stored new most (table_of new most) stored refl;
      })

  pub Becomes-update : AreStored new most
      → (change : Call → Call) → Rewrites change old new key → (call : Call)
      → Some call ≡ fin.get t.calls key
      → Becomes t (table_of new most) (update t.calls key change)
  Becomes-update stored change r call is =
      subst (Becomes t (table_of new most)) (sym (maps.update_there call_key_cmp_total
      call_key_cmp-IsAntisymmetric t.calls key call change (sym is)))
      (Becomes-rewrite stored change r call is)

  -- one is opened
  pub Adds-open : AreStored new most → (call : Call)
      → hash.Updates same_call_key old new key (Some call)
      → spare old ≤ spare new + 1
      → Adds t (table_of new most) (fin.insert t.calls key call)
  Adds-open stored call u room = subst
      (λ (v : CallTable). Adds v (table_of new most) (fin.insert v.calls key call)) view (record {
        rows = entries_insert call_key_decides call_key_cmp_total
            call_key_cmp-IsAntisymmetric old new key call u;
        most = refl;
        room = room;
        sound = IsConsistent-stored new most (table_of new most) stored refl;
      })

  -- one ends
  pub Becomes-end : AreStored new most → hash.Updates same_call_key old new key None
      → spare old ≤ spare new
      → Becomes t (table_of new most) (fin.remove t.calls key)
  Becomes-end stored u room = subst
      (λ (v : CallTable). Becomes v (table_of new most) (fin.remove v.calls key)) view (record {
        rows = entries_remove call_key_decides call_key_cmp_total
            call_key_cmp-IsAntisymmetric old new key u;
        most = refl;
        room = room;
        sound = IsConsistent-stored new most (table_of new most) stored refl;
      })

-- what is added up over the stored calls
module _ {S : Type 0} (calls : IndexMap CallKey Call S) (most : ℕ) (t : CallTable)
    (s : AreStored calls most) (view : table_of calls most ≡ t) where
  pub sum_stored : (f : Call → ℕ) → sum_by f (hash.values calls) ≡ total f t.calls
  sum_stored f =
      sym (total_entries call_key_decides call_key_cmp_total call_key_cmp-IsAntisymmetric
      f calls.entries s.apart)
      ∙ ap (λ u. total f u.calls) view

  -- so a sum of units is small
  pub sum_bound : (f : Call → ℕ) → ((call : Call) → f call ≤ call.units) → total f t.calls < 2 ^ 47
  sum_bound f each =
      let sound = IsConsistent-stored calls most t s view in
      let bound : total f t.calls ≤ (2 ^ 32 - 1) * fin.len t.calls =
      total_le call_key_cmp_total call_key_cmp-IsAntisymmetric f (2 ^ 32 - 1) t.calls
      (λ k c there. omega (arith, (sound.each k c there).units, each c)) in
      omega (arith, bound, sound.few, sound.most)

pub units_below : (pool : ℕ) (call : Call) → units_from pool call ≤ call.units
units_below pool call = cases (nat_eq call.pool pool) where
  cases : (b : Bool) → (if b then call.units else 0) ≤ call.units
  cases true = omega arith
  cases false = omega arith

pub none_from : {X : Type 0} (w : Option X) → is_some w ≡ false → w ≡ None
none_from None h = refl
none_from (Some x) h = absurd (cc h)

some_from : {X : Type 0} (w : Option X) → is_some w ≡ true → IsSome w
some_from None h = absurd (cc h)
some_from (Some x) h = search rules

-- the calls as rows
pub IsMapOf-stored : {S : Type 0} (calls : IndexMap CallKey Call S) (most : ℕ) (t : CallTable)
    → AreStored calls most → table_of calls most ≡ t
    → IsMapOf key_of value_of (row_in calls.entries) t.calls
IsMapOf-stored calls most t s view =
    subst (IsMapOf key_of value_of (row_in calls.entries))
    (ap open_calls_of (entries_again calls.entries) ∙ ap (λ u. u.calls) view)
    (IsMapOf-rows call_key_cmp_total call_key_cmp-IsAntisymmetric key_of
    value_of calls.entries s.apart)

module _ {S : Type 0} (calls : IndexMap CallKey Call S) (most : ℕ) (t : CallTable)
    (s : AreStored calls most) (view : table_of calls most ≡ t) (endpoint : List ℕ) where
  is_map : IsMapOf key_of value_of (row_in calls.entries) t.calls
  is_map = IsMapOf-stored calls most t s view

  no_call : ((j : ℕ) (e : CallKey × Call) → slice_get calls.entries j ≡ Some e
      → has_leg endpoint e.1 ≡ false) → IsInNoCall t.calls endpoint
  no_call none key = cases (fin.get t.calls key) refl where
    cases : (w : Option Call) → fin.get t.calls key ≡ w → leg_of (legs_in w) endpoint ≡ None
    cases None is = refl
    cases (Some call) is =
        let row = is_map.stands key call is in
        none_from (leg_of call.legs endpoint)
        (sym (ap (has_leg endpoint) row.2.value_is) ∙ none row.0 row.1 row.2.there)

  -- the first entry whose call has a leg of the endpoint gives such a call; if there is no such
  -- entry, there is no such call
  pub call_found : MatchOption (option_map key_of (find (λ e. has_leg endpoint e.1) calls.entries))
      (IsInNoCall t.calls endpoint)
      (λ key. IsSome (leg_at t.calls key endpoint))
  call_found = cases (find (λ e. has_leg endpoint e.1) calls.entries)
      (finds_in (λ e. has_leg endpoint e.1) calls.entries) where
        cases : (w : Option (CallKey × Call)) → FindsIn (λ e. has_leg endpoint e.1) calls.entries w
            → MatchOption (option_map key_of w) (IsInNoCall t.calls endpoint)
            (λ key. IsSome (leg_at t.calls key endpoint))
        cases None h = no_call h
        cases (Some e) h =
            some_from (leg_at t.calls e.0 endpoint)
            (ap (λ w. is_some (leg_of (legs_in w) endpoint)) (is_map.has h.0 e h.1) ∙ h.2)

pub len_stored : {S : Type 0} (calls : IndexMap CallKey Call S) (most : ℕ) (t : CallTable)
    → AreStored calls most → table_of calls most ≡ t → fin.len t.calls ≡ length calls.entries
len_stored calls most t s view =
    ap (λ u. fin.len u.calls) (sym view)
    ∙ len_entries call_key_decides call_key_cmp_total
    call_key_cmp-IsAntisymmetric calls.entries s.apart

-- the table is full if and only if the limit of stored calls is reached
pub full_stored : {S : Type 0} (calls : IndexMap CallKey Call S) (most : ℕ) (t : CallTable)
    → AreStored calls most → table_of calls most ≡ t
    → (fin.len t.calls ≡ t.most) ↔ (length calls.entries ≡ most)
full_stored calls most t s view =
    let len_is = len_stored calls most t s view in
    let most_is : most ≡ t.most = ap (λ u. u.most) view in
    (λ e. sym len_is ∙ (e ∙ sym most_is), λ e. len_is ∙ (e ∙ most_is))

-- what holds of a value that is there holds of it in other words
pub in_other_words : {T : Type 0} (o : Option T) (P Q : T → Type 0) → IfSome o P
    → ((x : T) → P x → Q x) → IfSome o Q
in_other_words (Some x) P Q is each = each x is
in_other_words None P Q is each = tt
