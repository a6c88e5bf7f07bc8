-- Lists of endpoints and of calls.
use Rattle.std.specs.Prelude.{ℕ, ◌≡◌, ◌<◌, ◌-◌, ◌^◌, ◌⊎◌, min, nat_lt, Bool, true, cond, List, []}
use Rattle.std.specs.Prelude.{◌∷◌, ◌++◌, length, map, take, reverse, All, Option, Some, None, Box}
use Rattle.std.specs.BTreeMap.{insert_entry}
use Rattle.std.specs.Cmp.Lexicographic.{slice_cmp}
use Rattle.std.specs.Global.{Global}
use Rattle.std.specs.List.{flat_map, fold}
use Rattle.std.specs.Map.{values_of}
use Rattle.std.specs.Ordering.{is_lt, nat_cmp}
use Rattle.ras_module.specs.declared.call_key.CallKey.{CallKey}
use Rattle.zone_view.specs.declared.rows.CallRow.{CallRow}
use Rattle.zone_view.specs.declared.rows.EndpointRow.{EndpointRow}
use Rattle.status_page.specs.declared.lists.CallList.{CallList}
use Rattle.status_page.specs.declared.lists.EndpointList.{EndpointList}

-- the identifiers of endpoints, in order
abbrev pub identifiers_of : List (Box EndpointRow Global) → List (List ℕ)
identifiers_of rows = map (λ row. row.value.identifier) rows

-- the keys of calls, in order
abbrev pub call_keys_of : List (Box CallRow Global) → List (List ℕ)
call_keys_of rows = map (λ row. row.value.key.octets) rows

-- whether an identifier stands behind this one, if there is one
abbrev pub is_endpoint_after : Option (List ℕ) → List ℕ → Bool
is_endpoint_after None identifier = true
is_endpoint_after (Some last) identifier = is_lt (slice_cmp nat_cmp last identifier)

-- whether a key stands behind this one, if there is one
abbrev pub is_call_after : Option CallKey → CallKey → Bool
is_call_after None key = true
is_call_after (Some last) key = is_lt (slice_cmp nat_cmp last.octets key.octets)

-- fewer rows are still to be told: below a lower place, or below the same one and fewer read ones
abbrev pub IsNearer : ℕ → ℕ → ℕ → ℕ → Type 0
IsNearer place rows new_place new_rows =
    (new_place < place) ⊎ ((new_place ≡ place) × (new_rows < rows))

-- an endpoint under its own identifier, behind the given one, with a row that was told
abbrev pub IsEndpointEntry : Option (List ℕ) → (EndpointRow → Type 0)
    → List ℕ × Box EndpointRow Global → Type 0
IsEndpointEntry after IsTold entry = (entry.0 ≡ entry.1.value.identifier)
    × (is_endpoint_after after entry.1.value.identifier ≡ true) × IsTold entry.1.value

-- a call under the octets of its own key, behind the given one, with a row that was told
abbrev pub IsCallEntry : Option CallKey → (CallRow → Type 0)
    → List ℕ × Box CallRow Global → Type 0
IsCallEntry after IsTold entry = (entry.0 ≡ entry.1.value.key.octets)
    × (is_call_after after entry.1.value.key ≡ true) × IsTold entry.1.value

-- One reading of a zone: rows below a place, which isn't the lowest, and the place below which the
-- following reading is made. It is the one that the zone returned, or the next lower one if that
-- isn't lower.
abbrev pub IsReading : {A : Type 0} → (ℕ → List A → ℕ → Type 0) → ℕ → List A → ℕ → Type 0
IsReading Below place rows following =
    (0 < place) × ((next : ℕ) × Below place rows next × (following ≡ min next (place - 1)))

-- The readings that had rows, from a place down: each one is made where the one before it said.
-- Behind them are no others: the place is the lowest one, or a reading there had no rows.
abbrev pub AreReadings : {A : Type 0} → (ℕ → List A → ℕ → Type 0) → ℕ → List (List A) → Type 0
AreReadings Below place [] = (place ≡ 0) ⊎ ((following : ℕ) × IsReading Below place [] following)
AreReadings Below place (rows ∷ others) = (0 < length rows) × ((following : ℕ)
    × IsReading Below place rows following × AreReadings Below following others)

-- all rows that were read of a zone, from the highest place down: those of each reading from the
-- last one to the first
abbrev pub AreAllRead : {A : Type 0} → (ℕ → List A → ℕ → Type 0) → List A → Type 0
AreAllRead Below rows = (readings : List (List _)) × AreReadings Below (2 ^ 64 - 1) readings
    × (rows ≡ flat_map reverse readings)

-- one more endpoint that was told, under its identifier, if that stands behind the given one; a row
-- that was told later takes the place of an earlier one
abbrev pub with_endpoint : Option (List ℕ) → List (List ℕ × EndpointRow) → EndpointRow
    → List (List ℕ × EndpointRow)
with_endpoint after entries row =
    cond (is_endpoint_after after row.identifier)
    (insert_entry (slice_cmp nat_cmp) entries row.identifier row) entries

-- the endpoints behind the given one, of those that were told, by rising identifiers
abbrev pub endpoints_told : Option (List ℕ) → List EndpointRow → List EndpointRow
endpoints_told after told = values_of (fold (with_endpoint after) [] told)

-- The list has the first of the endpoints behind the given one that were told, and says whether
-- there are more of them; `told` is all that was read of the zone, in order.
abbrev pub AreFirstEndpoints : (EndpointRow → Type 0) → (ℕ → List EndpointRow → ℕ → Type 0)
    → Option (List ℕ) → ℕ → EndpointList → Type 0
AreFirstEndpoints IsTold Below after most list =
    (told : List EndpointRow) × All IsTold told × AreAllRead Below told
    × (map (λ row. row.value) list.rows.items ≡ take most (endpoints_told after told))
    × (list.is_more ≡ nat_lt most (length (endpoints_told after told)))

-- the same of calls
abbrev pub with_call : Option CallKey → List (List ℕ × CallRow) → CallRow
    → List (List ℕ × CallRow)
with_call after entries row =
    cond (is_call_after after row.key)
    (insert_entry (slice_cmp nat_cmp) entries row.key.octets row) entries

abbrev pub calls_told : Option CallKey → List CallRow → List CallRow
calls_told after told = values_of (fold (with_call after) [] told)

abbrev pub AreFirstCalls : (CallRow → Type 0) → (ℕ → List CallRow → ℕ → Type 0)
    → Option CallKey → ℕ → CallList → Type 0
AreFirstCalls IsTold Below after most list =
    (told : List CallRow) × All IsTold told × AreAllRead Below told
    × (map (λ row. row.value) list.rows.items ≡ take most (calls_told after told))
    × (list.is_more ≡ nat_lt most (length (calls_told after told)))

-- The last of the rows that were read is taken. If there are none left, a reading is made first.
-- There is no next row if that reading has none, or if the place is the lowest one.
abbrev pub IsNextOf : {A : Type 0} → (ℕ → List A → ℕ → Type 0) → ℕ → List A → ℕ → List A
    → Option A → Type 0
IsNextOf Below place rows new_place new_rows (Some row) =
    ((new_place ≡ place) × (rows ≡ new_rows ++ row ∷ []))
    ⊎ ((rows ≡ []) × IsReading Below place (new_rows ++ row ∷ []) new_place)
IsNextOf Below place rows new_place new_rows None =
    (rows ≡ []) × ((place ≡ 0) ⊎ IsReading Below place [] new_place)
