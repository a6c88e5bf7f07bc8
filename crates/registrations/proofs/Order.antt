-- The rows to which an index leads, in its order.
use Rattle.std.proofs.Common.{◌≡◌, ◌≢◌, ℕ, zero, suc, List, [], ◌∷◌, ◌++◌, length, refl, sym, ◌∙◌}
use Rattle.std.proofs.Common.{ap}
use Rattle.std.proofs.Common.{Some, None}
use Rattle.std.specs.Prelude.{Option, slice_get}
use Rattle.std.specs.List.{cons_option}
use Rattle.slab.specs.Slab.{Slab, get, Updates}
use Rattle.keyed.specs.Maps.{Changed}
use Rattle.keyed.specs.Places.{AreApart, row_in}
use Rattle.keyed.proofs.Decide.{some_none, same_some}
use Rattle.registrations.specs.declared.registration.Registration.{Registration}
use Rattle.registrations.specs.Registry.{identifier_of}
use Rattle.registrations.specs.inside.Stored.{Entry, key_of, place_of, order_of}
use Rattle.registrations.proofs.Swapped.{IsSwapped}

-- each entry leads to a row with its identifier
abbrev pub EachLeads : Slab Registration → List Entry → Type 0
EachLeads rows entries = (j : ℕ) (e : Entry) → slice_get entries j ≡ Some e
    → (r : Registration) × (get rows (place_of e) ≡ Some r) × (identifier_of r ≡ key_of e)

module _ (rows : Slab Registration) where
  rest_leads : (e : Entry) (entries : List Entry) → EachLeads rows (e ∷ entries)
      → EachLeads rows entries
  rest_leads e entries h j d there = h (suc j) d there

  pub length_order : (entries : List Entry) → EachLeads rows entries
      → length (order_of rows entries) ≡ length entries
  length_order [] h = refl
  length_order (e ∷ entries) h =
      ap (λ w. length (cons_option w (order_of rows entries))) (h zero e refl).1
      ∙ ap suc (length_order entries (rest_leads e entries h))

  -- the list has at each place the row to which the entry there leads
  pub order_at : (entries : List Entry) → EachLeads rows entries → (j : ℕ) (e : Entry)
      → slice_get entries j ≡ Some e → slice_get (order_of rows entries) j ≡ get rows (place_of e)
  order_at [] h j e there = some_none (sym there)
  order_at (d ∷ entries) h zero e there =
      let row = h zero d refl in
      ap (λ w. slice_get (cons_option w (order_of rows entries)) zero) row.1
      ∙ (sym row.1 ∙ ap (λ x. get rows (place_of x)) (same_some d e there))
  order_at (d ∷ entries) h (suc j) e there =
      ap (λ w. slice_get (cons_option w (order_of rows entries)) (suc j)) (h zero d refl).1
      ∙ order_at entries (rest_leads d entries h) j e there

  pub order_none : (entries : List Entry) → EachLeads rows entries → (j : ℕ)
      → slice_get entries j ≡ None → slice_get (order_of rows entries) j ≡ None
  order_none [] h j none = refl
  order_none (d ∷ entries) h zero none = some_none none
  order_none (d ∷ entries) h (suc j) none =
      ap (λ w. slice_get (cons_option w (order_of rows entries)) (suc j)) (h zero d refl).1
      ∙ order_none entries (rest_leads d entries h) j none

  -- and each row of the list comes from an entry
  pub from_order : (entries : List Entry) → EachLeads rows entries → (j : ℕ) (r : Registration)
      → slice_get (order_of rows entries) j ≡ Some r
      → (e : Entry) × (slice_get entries j ≡ Some e) × (get rows (place_of e) ≡ Some r)
  from_order [] h j r there = some_none (sym there)
  from_order (d ∷ entries) h zero r there =
      let row = h zero d refl in (
        d,
        refl,
        row.1 ∙ (sym (ap (λ w. slice_get (cons_option w (order_of rows entries)) zero) row.1)
            ∙ there),
      )
  from_order (d ∷ entries) h (suc j) r there = from_order entries (rest_leads d entries h) j r
      (sym (ap (λ w. slice_get (cons_option w (order_of rows entries)) (suc j)) (h zero d refl).1)
      ∙ there)

  -- a row at an empty place, with an entry after all others
  pub order_put : (next : Slab Registration) (entries : List Entry) (id : List ℕ) (i : ℕ)
      (r : Registration) → EachLeads rows entries → get rows i ≡ None
      → Updates rows next i (Some r)
      → order_of next (entries ++ (id, i) ∷ []) ≡ order_of rows entries ++ r ∷ []
  order_put next [] id i r h vacant u = ap (λ w. cons_option w []) u.changed
  order_put next (d ∷ entries) id i r h vacant u =
      let row = h zero d refl in
      let differ : place_of d ≢ i =
      (λ p. some_none (sym row.1 ∙ (ap (get rows) p ∙ vacant))) in
      ap (λ w. cons_option w (order_of next (entries ++ (id, i) ∷ [])))
      (u.others (place_of d) differ ∙ row.1)
      ∙ (ap (λ l. row.0 ∷ l) (order_put next entries id i r (rest_leads d entries h) vacant u)
      ∙ sym (ap (λ w. cons_option w (order_of rows entries) ++ r ∷ []) row.1))

-- a row is changed where it stands
module _ (rows next : Slab Registration) (entries : List Entry) (h : EachLeads rows entries)
    (k : EachLeads next entries) (apart : AreApart key_of (row_in entries)) where
  -- no two entries lead to one place
  one_entry : (i j : ℕ) (d e : Entry) → slice_get entries i ≡ Some d → slice_get entries j ≡ Some e
      → place_of d ≡ place_of e → i ≡ j
  one_entry i j d e p q same =
      let a = h i d p in
      let b = h j e q in
      let row = same_some a.0 b.0 (sym a.1 ∙ (ap (get rows) same ∙ b.1)) in
      apart.apart i j d e p q (sym a.2 ∙ (ap identifier_of row ∙ b.2))

  pub order_changed : (i : ℕ) (e : Entry) (r : Registration) → slice_get entries i ≡ Some e
      → Changed (get rows) (get next) (place_of e) (Some r)
      → Changed (row_in (order_of rows entries)) (row_in (order_of next entries)) i (Some r)
  order_changed i e r there c = record {
    here = order_at next entries k i e there ∙ c.here;
    others = λ j differ. cases j differ (slice_get entries j) refl;
  } where
    cases : (j : ℕ) → j ≢ i → (w : Option Entry) → slice_get entries j ≡ w
        → slice_get (order_of next entries) j ≡ slice_get (order_of rows entries) j
    cases j differ None is = order_none next entries k j is ∙ sym (order_none rows entries h j is)
    cases j differ (Some d) is = order_at next entries k j d is
        ∙ (c.others (place_of d) (λ p. differ (one_entry j i d e is there p))
        ∙ sym (order_at rows entries h j d is))

-- a row is taken out: where the entries stay the same, the rows do
module _ (rows next : Slab Registration) (entries left : List Entry) (h : EachLeads rows entries)
    (k : EachLeads next left) (place : ℕ) (u : Updates rows next place None) where
  same_row : (i j : ℕ) → slice_get left i ≡ slice_get entries j
      → slice_get (order_of next left) i ≡ slice_get (order_of rows entries) j
  same_row i j same = cases (slice_get left i) refl where
    cases : (w : Option Entry) → slice_get left i ≡ w
        → slice_get (order_of next left) i ≡ slice_get (order_of rows entries) j
    cases None is = order_none next left k i is ∙ sym (order_none rows entries h j (sym same ∙ is))
    cases (Some d) is = order_at next left k i d is
        ∙ (u.others (place_of d)
        (λ p. some_none (sym (k i d is).1 ∙ (ap (get next) p ∙ u.changed)))
        ∙ sym (order_at rows entries h j d (sym same ∙ is)))

  pub IsSwapped-order : (i last : ℕ) → IsSwapped entries left i last
      → IsSwapped (order_of rows entries) (order_of next left) i last
  IsSwapped-order i last s = record {
    here = λ differ. same_row i last (s.here differ);
    end = order_none next left k last s.end;
    others = λ j not_here not_last. same_row j j (s.others j not_here not_last);
  }
