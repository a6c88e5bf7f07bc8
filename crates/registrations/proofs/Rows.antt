-- Registrations in a list, and the finite map that they make. No two of them share an identifier or
-- a call signal address.
use Rattle.std.proofs.Common.{◌≡◌, ◌<◌, ◌≤◌, ◌+◌, ℕ, Bool, true, false, List, [], ◌∷◌, ◌++◌}
use Rattle.std.proofs.Common.{length, nat_eq, refl, sym, ◌∙◌, ap, cond, zero, suc, ◌||◌, Some, None}
use Rattle.std.proofs.Common.{arith, take}
use Rattle.std.specs.Prelude.{Option, slice_get}
use Rattle.std.specs.List.{find as find_first, list_any}
use Rattle.std.specs.Cmp.Lexicographic.{pointwise}
use Rattle.std.specs.FinMap as fin
use Rattle.std.proofs.lemmas.Cmp.{nat_list_cmp_total}
use Rattle.std.proofs.lemmas.Map.Lookups.{exact_bytes}
use Rattle.std.proofs.Math.Seq.{take-suc}
use Rattle.std.proofs.lemmas.List.{length-take}
use Rattle.std.proofs.lemmas.Iterator.Adapters.{option_map_id}
use Rattle.std.proofs.lemmas.Option.{get_or_from_slice_get, slice_get_within}
use Rattle.keyed.specs.Places.{row_in, AreApart}
use Rattle.keyed.proofs.Decide.{some_none, same_some, test_false}
use Rattle.keyed.proofs.Rows.{IsMapOf-rows, len_rows}
use Rattle.keyed.proofs.Searches.{find_key}
use Rattle.keyed.proofs.Values.{find_none}
use Rattle.ras_module.specs.Addresses.{same_address}
use Rattle.ras_module.specs.Same.{texts_decide, address_decides}
use Rattle.registrations.specs.declared.registration.Registration.{Registration}
use Rattle.registrations.specs.Registry.{live_of, at_address, identifier_of, call_signal_of}
use Rattle.registrations.specs.Registry.{Registry, IsConsistent, IsNumbered}

pub record AreRows (rows : List Registration) : Type 0 where
  pub ids : AreApart identifier_of (row_in rows)
  pub addresses : AreApart call_signal_of (row_in rows)

-- the first row with an identifier is what the map has under it
pub get_row : (rows : List Registration) (id : List ℕ)
    → find_first (λ r. pointwise nat_eq r.identifier id) rows ≡ fin.get (live_of rows) id
get_row rows id =
    sym (option_map_id (find_first (λ r. pointwise nat_eq r.identifier id) rows))
    ∙ find_key nat_list_cmp_total exact_bytes identifier_of (λ r. r)
    (pointwise nat_eq) texts_decide id rows

-- no row passes the test of an identifier that the map doesn't have
pub none_named : (rows : List Registration) (id : List ℕ)
    → list_any (λ r. pointwise nat_eq r.identifier id) rows ≡ false
    → fin.get (live_of rows) id ≡ None
none_named rows id none = sym (get_row rows id) ∙ no_row rows none where
  no_row : (rows : List Registration)
      → list_any (λ r. pointwise nat_eq r.identifier id) rows ≡ false
      → find_first (λ r. pointwise nat_eq r.identifier id) rows ≡ None
  no_row [] h = refl
  no_row (r ∷ rows) h = cases (pointwise nat_eq r.identifier id) (no_row rows) h where
    cases : (b : Bool)
        → (list_any (λ r. pointwise nat_eq r.identifier id) rows ≡ false
        → find_first (λ r. pointwise nat_eq r.identifier id) rows ≡ None)
        → (b || list_any (λ r. pointwise nat_eq r.identifier id) rows) ≡ false
        → cond b (Some r) (find_first (λ r. pointwise nat_eq r.identifier id) rows) ≡ None
    cases true rest h = absurd (cc h)
    cases false rest h = rest h

module _ (rows : List Registration) (are : AreRows rows) where
  pub len_live : fin.len (live_of rows) ≡ length rows
  len_live = len_rows nat_list_cmp_total exact_bytes identifier_of (λ r. r) rows are.ids

  -- the row to which an identifier leads
  pub live_row : (id : List ℕ) (r : Registration) → fin.get (live_of rows) id ≡ Some r
      → (i : ℕ) × (slice_get rows i ≡ Some r) × (r.identifier ≡ id)
  live_row id r found =
      let s = (IsMapOf-rows nat_list_cmp_total exact_bytes identifier_of
      (λ r. r) rows are.ids).stands id r found in
      (s.0, s.2.there ∙ ap Some s.2.value_is, sym (ap identifier_of s.2.value_is) ∙ s.2.key_is)

  pub IsConsistent-rows : IsConsistent (live_of rows)
  IsConsistent-rows = record {
    own = λ id r found. (live_row id r found).2;
    apart = λ i j r s p q e.
        (let a = live_row i r p in
        let b = live_row j s q in
        let one = are.addresses.apart a.0 b.0 r s a.1 b.1 e in
        let same = same_some r s (sym a.1 ∙ (ap (slice_get rows) one ∙ b.1)) in
        sym a.2 ∙ (ap identifier_of same ∙ b.2));
  }

-- the rows before one
taken : {X : Type 0} (rows : List X) (n j : ℕ) (r : X) → slice_get (take n rows) j ≡ Some r
    → (j < n) × (slice_get rows j ≡ Some r)
taken [] zero j r e = some_none (sym e)
taken [] (suc n) j r e = some_none (sym e)
taken (x ∷ rows) zero j r e = some_none (sym e)
taken (x ∷ rows) (suc n) zero r e = (omega arith, e)
taken (x ∷ rows) (suc n) (suc j) r e =
    (let rest = taken rows n j r e in
    (omega (arith, rest.0), rest.1))

module _ (rows : List Registration) (are : AreRows rows) (n : ℕ) where
  AreRows-taken : AreRows (take n rows)
  AreRows-taken = record {
    ids = record {
      apart = λ i j r s p q e.
          are.ids.apart i j r s (taken rows n i r p).1 (taken rows n j s q).1 e;
    };
    addresses = record {
      apart = λ i j r s p q e.
          are.addresses.apart i j r s (taken rows n i r p).1 (taken rows n j s q).1 e;
    };
  }

  pub len_taken : fin.len (live_of (take n rows)) ≤ n
  len_taken = omega (arith, len_live (take n rows) AreRows-taken, length-take n rows)

  module _ (r : Registration) (there : slice_get rows n ≡ Some r) where
    -- no row before this one has its identifier or its call signal address
    pub none_before : fin.get (live_of (take n rows)) r.identifier ≡ None
    none_before = cases (fin.get (live_of (take n rows)) r.identifier) refl where
      cases : (w : Option Registration)
          → fin.get (live_of (take n rows)) r.identifier ≡ w
          → fin.get (live_of (take n rows)) r.identifier ≡ None
      cases None is = is
      cases (Some s) is =
          let row = live_row (take n rows) AreRows-taken r.identifier s is in
          let at = taken rows n row.0 s row.1 in
          let place : row.0 ≡ n = are.ids.apart row.0 n s r at.1 there row.2 in
          absurd (omega (arith, place, at.0))

    pub no_address_before : at_address (live_of (take n rows)) r.call_signal ≡ None
    no_address_before = find_none nat_list_cmp_total exact_bytes
        (λ s. same_address s.call_signal r.call_signal) (live_of (take n rows))
        (λ k s found. (let row = live_row (take n rows) AreRows-taken k s found in
        let at = taken rows n row.0 s row.1 in
        test_false _ (address_decides s.call_signal r.call_signal)
        (λ e. (let place : row.0 ≡ n = are.addresses.apart row.0 n s r at.1 there e in
        omega (arith, place, at.0)))))

-- the rows before the next one, and that one
pub next_taken : {X : Type 0} (rows : List X) (n : ℕ) (r : X) → slice_get rows n ≡ Some r
    → take n rows ++ r ∷ [] ≡ take (n + 1) rows
next_taken rows n r there =
    let next : suc n ≡ n + 1 = omega arith in
    ap (λ last. take n rows ++ last ∷ []) (sym (get_or_from_slice_get rows n r r there))
    ∙ (sym (take-suc rows n r (slice_get_within rows n r there)) ∙ ap (λ m. take m rows) next)

pub next_copied : {X : Type 0} (rows before after : List X) (n : ℕ) (r : X)
    → slice_get rows n ≡ Some r → before ≡ take n rows → after ≡ before ++ r ∷ []
    → after ≡ take (n + 1) rows
next_copied rows before after n r there are more =
    more ∙ (ap (λ front. front ++ r ∷ []) are ∙ next_taken rows n r there)

-- the number of registrations is the number of those that are numbered
pub len_numbered : (t : Registry) → IsNumbered t → fin.len t.live ≡ length t.order
len_numbered t numbered = ap fin.len (sym numbered.all)
    ∙ len_rows nat_list_cmp_total exact_bytes identifier_of (λ r. r) t.order numbered.once
