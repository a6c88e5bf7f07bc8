-- The identifiers that kept RegistrationConfirms tell.
use Rattle.std.proofs.Common.{◌≡◌, ℕ, zero, suc, List, [], ◌∷◌, refl, sym, ◌∙◌, ap, subst, Some}
use Rattle.std.proofs.Common.{None, Option, Bool, true, false, ◌||◌, arith}
use Rattle.std.specs.Prelude.{slice_get, Contains, ◌↔◌, IsTrue, Result, Ok, Err, IfOk}
use Rattle.std.specs.List.{list_any, cons_option}
use Rattle.indexmap.specs.IndexMap.{IndexMap}
use Rattle.keyed.specs.Places.{row_in}
use Rattle.keyed.proofs.Decide.{some_none, same_some, Contains-later, Contains-parts}
use Rattle.keyed.proofs.Listed as listed
use Rattle.keyed.proofs.Places.{IsMapOf}
use Rattle.ras_module.specs.Same.{texts_decide}
use Rattle.kept_replies.specs.Kept.{KeptTable, IsNamed, named_by}
use Rattle.kept_replies.specs.inside.Stored.{AreStored, identifiers_of, is_identifier, is_named_by}
use Rattle.kept_replies.specs.inside.Stored.{key_of}
use Rattle.kept_replies.specs.declared.entry.KeptEntry.{KeptEntry}
use Rattle.kept_replies.specs.declared.key.KeptKey.{KeptKey}
use Rattle.kept_replies.proofs.KeyOrder.{key_cmp_total, key_cmp-IsAntisymmetric}
use Rattle.kept_replies.proofs.StoredKept.{table_of}

abbrev Rows : Type 0
Rows = List (KeptKey × KeptEntry)

-- a row tells the identifier
record Tells (es : Rows) (id : List ℕ) (i : ℕ) (row : KeptKey × KeptEntry) : Type 0 where
  there : slice_get es i ≡ Some row
  named : named_by row.1 ≡ Some id

same_identifier : (id : List ℕ) (w : Option (List ℕ)) → is_identifier id w ≡ true → w ≡ Some id
same_identifier id None h = absurd (cc h)
same_identifier id (Some other) h = ap Some ((texts_decide other id).0 h)

identifier_same : (id : List ℕ) (w : Option (List ℕ)) → w ≡ Some id → is_identifier id w ≡ true
identifier_same id None h = some_none (sym h)
identifier_same id (Some other) h = (texts_decide other id).1 (same_some other id h)

-- the search of the rows
found_any : (id : List ℕ) (es : Rows) → list_any (λ row. is_named_by id row.1) es ≡ true
    → (i : ℕ) × (row : KeptKey × KeptEntry) × Tells es id i row
found_any id [] h = absurd (cc h)
found_any id (row ∷ es) h = cases (found_any id es) (is_named_by id row.1) refl h where
  cases : (list_any (λ row. is_named_by id row.1) es ≡ true
      → (i : ℕ) × (row : KeptKey × KeptEntry) × Tells es id i row)
      → (b : Bool) → is_named_by id row.1 ≡ b
      → (b || list_any (λ row. is_named_by id row.1) es) ≡ true
      → (i : ℕ) × (other : KeptKey × KeptEntry) × Tells (row ∷ es) id i other
  cases rest true is h =
      (zero, row, record { there = refl; named = same_identifier id (named_by row.1) is })
  cases rest false is h =
      (let later = rest h in
      (suc later.0, later.1, record { there = later.2.there; named = later.2.named }))

any_found : (id : List ℕ) (es : Rows) (i : ℕ) (row : KeptKey × KeptEntry) → Tells es id i row
    → list_any (λ row. is_named_by id row.1) es ≡ true
any_found id [] i row h = some_none (sym h.there)
any_found id (x ∷ es) zero row h =
    ap (λ b. b || list_any (λ row. is_named_by id row.1) es)
    (ap (λ (r : KeptKey × KeptEntry). is_named_by id r.1) (same_some x row h.there)
    ∙ identifier_same id (named_by row.1) h.named)
any_found id (x ∷ es) (suc i) row h =
    later (is_named_by id x.1)
    (any_found id es i row (record { there = h.there; named = h.named })) where
      later : (b : Bool) → list_any (λ row. is_named_by id row.1) es ≡ true
          → (b || list_any (λ row. is_named_by id row.1) es) ≡ true
      later true h = refl
      later false h = h

-- the list of the identifiers
told_by : (id : List ℕ) (es : Rows) → Contains (identifiers_of es) id
    → (i : ℕ) × (row : KeptKey × KeptEntry) × Tells es id i row
told_by id [] h = absurd (omega (arith, h.1))
told_by id (x ∷ es) h = cases (told_by id es) (named_by x.1) refl h where
  next : (i : ℕ) × (row : KeptKey × KeptEntry) × Tells es id i row
      → (i : ℕ) × (row : KeptKey × KeptEntry) × Tells (x ∷ es) id i row
  next later = (suc later.0, later.1, record { there = later.2.there; named = later.2.named })

  cases : (Contains (identifiers_of es) id
      → (i : ℕ) × (row : KeptKey × KeptEntry) × Tells es id i row)
      → (w : Option (List ℕ)) → named_by x.1 ≡ w
      → Contains (cons_option w (identifiers_of es)) id
      → (i : ℕ) × (row : KeptKey × KeptEntry) × Tells (x ∷ es) id i row
  cases rest None is h = next (rest h)
  cases rest (Some other) is h =
      Contains-parts other (identifiers_of es) id
      ((i : ℕ) × (row : KeptKey × KeptEntry) × Tells (x ∷ es) id i row) h
      (λ e. (zero, x, record { there = refl; named = is ∙ ap Some e }))
      (λ later. next (rest later))

tells : (id : List ℕ) (es : Rows) (i : ℕ) (row : KeptKey × KeptEntry) → Tells es id i row
    → Contains (identifiers_of es) id
tells id [] i row h = some_none (sym h.there)
tells id (x ∷ es) zero row h =
    subst (λ (w : Option (List ℕ)). Contains (cons_option w (identifiers_of es)) id)
    (sym (ap (λ (r : KeptKey × KeptEntry). named_by r.1) (same_some x row h.there) ∙ h.named))
    (zero, omega arith, refl)
tells id (x ∷ es) (suc i) row h =
    later (named_by x.1) (tells id es i row (record { there = h.there; named = h.named })) where
      later : (w : Option (List ℕ)) → Contains (identifiers_of es) id
          → Contains (cons_option w (identifiers_of es)) id
      later None h = h
      later (Some other) h = Contains-later other (identifiers_of es) id h

module _ {S : Type 0} (rows : IndexMap KeptKey KeptEntry S) (most : ℕ) (t : KeptTable)
    (s : AreStored rows most) (view : table_of rows most ≡ t) (id : List ℕ) where
  is_map : IsMapOf key_of (λ (r : KeptKey × KeptEntry). r.1) (row_in rows.entries) t.kept
  is_map =
      subst (λ (u : KeptTable). IsMapOf key_of (λ (r : KeptKey × KeptEntry). r.1)
      (row_in rows.entries) u.kept) view
      (listed.IsMapOf-pairs key_cmp_total key_cmp-IsAntisymmetric rows.entries s.apart)

  named_from : (i : ℕ) (row : KeptKey × KeptEntry) → Tells rows.entries id i row
      → IsNamed t.kept id
  named_from i row h = record {
    key = row.0;
    entry = row.1;
    there = is_map.has i row h.there;
    named = h.named;
  }

  from_named : IsNamed t.kept id
      → (i : ℕ) × (row : KeptKey × KeptEntry) × Tells rows.entries id i row
  from_named n =
      (let at = is_map.stands n.key n.entry n.there in
      (at.0, at.1, record { there = at.2.there; named = ap named_by at.2.value_is ∙ n.named }))

  -- the search finds a row if and only if a kept reply tells the identifier
  pub any_named : (found : Bool)
      → found ≡ list_any (λ row. is_named_by id row.1) rows.entries
      → IsTrue found ↔ IsNamed t.kept id
  any_named found is = (
    λ h. (let row = found_any id rows.entries (sym is ∙ h) in named_from row.0 row.1 row.2),
    λ n. (let row = from_named n in is ∙ any_found id rows.entries row.0 row.1 row.2),
  )

  -- and the list has an identifier if and only if a kept reply tells it
  pub listed_named : Contains (identifiers_of rows.entries) id ↔ IsNamed t.kept id
  listed_named = (
    λ h. (let row = told_by id rows.entries h in named_from row.0 row.1 row.2),
    λ n. (let row = from_named n in tells id rows.entries row.0 row.1 row.2),
  )

-- so the list has the identifiers that are told, and no others
pub all_named : {S : Type 0} (rows : IndexMap KeptKey KeptEntry S) (most : ℕ) (t : KeptTable)
    → AreStored rows most → table_of rows most ≡ t
    → {X E : Type 0} (items : X → List (List ℕ)) (result : Result X E)
    → IfOk result (λ ids. items ids ≡ identifiers_of rows.entries)
    → IfOk result (λ ids. (id : List ℕ) → Contains (items ids) id ↔ IsNamed t.kept id)
all_named rows most t s view items (Ok ids) is = λ id.
    subst (λ (list : List (List ℕ)). Contains list id ↔ IsNamed t.kept id) (sym is)
    (listed_named rows most t s view id)
all_named rows most t s view items (Err e) is = tt
