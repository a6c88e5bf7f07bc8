-- Endpoints and calls in JSON.
use Rattle.std.specs.Prelude.{ℕ, ◌-◌, Bool, cond, List, [], ◌∷◌, ◌++◌, codes, length, Option}
use Rattle.std.specs.Prelude.{Some, None, Box, slice_get}
use Rattle.std.specs.Fmt.{decimal}
use Rattle.std.specs.List.{concat}
use Rattle.std.specs.Global.{Global}
use Rattle.ras_module.specs.declared.alias.Alias.{Alias}
use Rattle.ras_module.specs.declared.alias.Alias.TheVariants.{Digits, H323Id}
use Rattle.zone_view.specs.declared.rows.CallRow.{CallRow}
use Rattle.zone_view.specs.declared.rows.EndpointRow.{EndpointRow}
use Rattle.status_page.specs.Texts.{address_text, json_text, key_text, units_of, with_commas}

-- an alias, as in {"digits":"100"}
abbrev pub alias_front : Alias → List ℕ
alias_front (Digits digits) = codes "{\"digits\":\""
alias_front (H323Id id) = codes "{\"h323_id\":\""

unfoldable pub alias_json : Alias → List ℕ
alias_json alias = alias_front alias ++ json_text (units_of alias) ++ codes "\"}"

-- an endpoint, with those of its aliases that are shown
abbrev pub endpoint_parts : EndpointRow → List (List ℕ)
endpoint_parts row =
    codes "{\"identifier\":\"" ∷ json_text row.identifier ∷ codes "\",\"call_signal\":\""
    ∷ address_text row.call_signal ∷ codes "\",\"ras\":\"" ∷ address_text row.ras
    ∷ codes "\",\"aliases\":[" ∷ with_commas alias_json row.aliases ∷ codes "],\"alias_count\":"
    ∷ decimal row.alias_count ∷ codes ",\"calls\":" ∷ decimal row.legs ∷ codes ",\"deadline\":"
    ∷ decimal row.deadline ∷ codes ",\"heard\":" ∷ decimal row.heard ∷ codes "}" ∷ []

unfoldable pub endpoint_json : EndpointRow → List ℕ
endpoint_json row = concat (endpoint_parts row)

-- the identifier of the other endpoint of a call, if it was admitted too
unfoldable pub second_json : Option (List ℕ) → List ℕ
second_json (Some identifier) = codes "\"" ++ json_text identifier ++ codes "\""
second_json None = codes "null"

-- a call
abbrev pub call_parts : CallRow → List (List ℕ)
call_parts row =
    codes "{\"key\":\"" ∷ key_text row.key ∷ codes "\",\"pool\":" ∷ decimal row.pool
    ∷ codes ",\"units\":" ∷ decimal row.units ∷ codes ",\"first\":\"" ∷ json_text row.first
    ∷ codes "\",\"second\":" ∷ second_json row.second ∷ codes "}" ∷ []

unfoldable pub call_json : CallRow → List ℕ
call_json row = concat (call_parts row)

-- the last of these, if there is one
abbrev pub last_of : {A : Type 0} → List A → Option A
last_of xs = slice_get xs (length xs - 1)

-- the `after` of the next list, behind the last row of this one; null if there is no next one
unfoldable pub next_endpoint_json : Bool → Option (Box EndpointRow Global) → List ℕ
next_endpoint_json is_more (Some row) =
    cond is_more (codes "\"" ++ json_text row.value.identifier ++ codes "\"") (codes "null")
next_endpoint_json is_more None = codes "null"

unfoldable pub next_call_json : Bool → Option (Box CallRow Global) → List ℕ
next_call_json is_more (Some row) =
    cond is_more (codes "\"" ++ key_text row.value.key ++ codes "\"") (codes "null")
next_call_json is_more None = codes "null"

-- a list of endpoints
abbrev pub endpoints_text : List (Box EndpointRow Global) → Bool → List ℕ
endpoints_text rows is_more =
    codes "{\"endpoints\":[" ++ with_commas (λ row. endpoint_json row.value) rows
    ++ codes "],\"next\":" ++ next_endpoint_json is_more (last_of rows) ++ codes "}\n"

-- a list of calls
abbrev pub calls_text : List (Box CallRow Global) → Bool → List ℕ
calls_text rows is_more =
    codes "{\"calls\":[" ++ with_commas (λ row. call_json row.value) rows
    ++ codes "],\"next\":" ++ next_call_json is_more (last_of rows) ++ codes "}\n"
