-- Rows of what is numbered, from the highest number down.
use Rattle.std.proofs.Common.{◌≡◌, ◌∙◌, ◌<◌, ◌≤◌, ◌+◌, ◌∷◌, ◌++◌, ℕ, [], List, Some, ap, sym}
use Rattle.std.proofs.Common.{arith, length, refl, subst, suc}
use Rattle.std.specs.Prelude.{drop, map, min, reverse, slice_get, take}
use Rattle.std.specs.FinMap as fin
use Rattle.std.proofs.Math.Seq.{drop-cons}
use Rattle.std.proofs.lemmas.List.{drop_all, get_or-take, length-take, reverse-append}
use Rattle.std.proofs.lemmas.Option.{get_or_from_slice_get, slice_get_within}
use Rattle.ras_module.specs.declared.call_key.CallKey.{CallKey}
use Rattle.registrations.specs.declared.registration.Registration.{Registration}
use Rattle.registrations.specs.Registry.{IsNumbered, Registry}
use Rattle.registrations.proofs.Rows as registrations
use Rattle.admission.specs.Calls.{AreNumbered, CallTable}
use Rattle.admission.specs.declared.call.Call.{Call}
use Rattle.admission.proofs.Numbered as calls
use Rattle.zone_tables.specs.Tables.{Tables}
use Rattle.zone_view.specs.declared.rows.CallRow.{CallRow}
use Rattle.zone_view.specs.declared.rows.EndpointRow.{EndpointRow}
use Rattle.zone_lock.specs.Views.{IsCallRow, IsEndpointRow, call_row, row_in, rows_below}

-- there are none as long as all numbers are left
none_below : {X Y : Type 0} (row : X → Y) (order : List X) (place left : ℕ)
    → left ≡ min place (length order) → rows_below row order place left ≡ []
none_below {X} row order place left all =
    ap (λ (xs : List X). reverse (map row xs))
    (drop_all left (take place order) (omega (arith, all, length-take place order)))

pub no_rows : {Y : Type 0} (row : Registration → Y) (table : Registry) (place left : ℕ)
    → IsNumbered table → left ≡ min place (fin.len table.live)
    → rows_below row table.order place left ≡ []
no_rows row table place left numbered all = none_below row table.order place left
    (all ∙ ap (min place) (registrations.len_numbered table numbered))

pub no_call_rows : {Y : Type 0} (row : CallKey × Call → Y) (table : CallTable) (place left : ℕ)
    → AreNumbered table → left ≡ min place (fin.len table.calls)
    → rows_below row table.order place left ≡ []
no_call_rows row table place left numbered all = none_below row table.order place left
    (all ∙ ap (min place) (calls.len_numbered table numbered))

-- with what has the next number they are one more
pub next_row : {X Y : Type 0} (row : X → Y) (order : List X) (place next left : ℕ) (x : X)
    → next + 1 ≡ left → left ≤ place → slice_get order next ≡ Some x
    → rows_below row order place next ≡ rows_below row order place left ++ row x ∷ []
next_row {X} row order place next left x one within there =
    let more : next < length order = slice_get_within order next x there in
    let length_is = length-take place order in
    let here = get_or-take place order next x (omega (arith, one, within))
    ∙ get_or_from_slice_get order next x x there in
    let after : suc next ≡ left = omega (arith, one) in
    let front : drop next (take place order) ≡ x ∷ drop left (take place order) =
    drop-cons (take place order) next x (omega (arith, one, within, more, length_is))
    ∙ ap (λ (first : X). first ∷ drop (suc next) (take place order)) here
    ∙ ap (λ (n : ℕ). x ∷ drop n (take place order)) after in
    ap (λ (xs : List X). reverse (map row xs)) front
    ∙ reverse-append (row x ∷ []) (map row (drop left (take place order)))

-- the row of a registration that stands under its own identifier is that of an endpoint
pub row_of_live : (tables : Tables) (r : Registration) (row : EndpointRow)
    → fin.get tables.live r.identifier ≡ Some r → row ≡ row_in tables r → IsEndpointRow tables row
row_of_live tables r row live is = subst (IsEndpointRow tables) (sym is) (record {
  registration = r;
  live = live;
  row_is = refl;
})

-- the row of a call that is open under a key is that of an open call
pub row_of_call : (tables : Tables) (key : CallKey) (call : Call) (row : CallRow)
    → fin.get tables.calls key ≡ Some call → row ≡ call_row key call → IsCallRow tables row
row_of_call tables key call row there is = subst (IsCallRow tables) (sym is) (record {
  call = call;
  is_open = there;
  row_is = refl;
})
