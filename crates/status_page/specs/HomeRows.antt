-- Endpoints and calls, on the page for people.
use Rattle.std.specs.Prelude.{ℕ, ◌-◌, ◌==◌, cond, nat_eq, List, [], ◌∷◌, ◌++◌, codes, length}
use Rattle.std.specs.Prelude.{flat_map, Option, Some, None, Box}
use Rattle.std.specs.Fmt.{decimal}
use Rattle.std.specs.Global.{Global}
use Rattle.std.specs.List.{concat}
use Rattle.ras_module.specs.declared.alias.Alias.{Alias}
use Rattle.zone_view.specs.declared.rows.CallRow.{CallRow}
use Rattle.zone_view.specs.declared.rows.EndpointRow.{EndpointRow}
use Rattle.status_page.specs.HomeParts.{html_text, span_text, tenths_text}
use Rattle.status_page.specs.Texts.{address_text, key_text, listed, units_of}

-- the aliases that are shown, and how many more there are
unfoldable pub alias_html : Alias → List ℕ
alias_html alias = codes "<bdi>" ++ html_text (units_of alias) ++ codes "</bdi>"

abbrev pub shown_html : List Alias → List ℕ
shown_html shown = listed [] (codes ", ") alias_html shown

abbrev pub more_html : ℕ → List ℕ
more_html number = cond (nat_eq number 0) [] (codes " and " ++ decimal number ++ codes " more")

abbrev pub aliases_html : List Alias → ℕ → List ℕ
aliases_html shown count = shown_html shown ++ more_html (count - length shown)

-- an endpoint, at this moment of the zone's clock: its addresses, its calls, in how long its
-- registration ends, and how long ago it was last heard
abbrev pub endpoint_cells : ℕ → EndpointRow → List (List ℕ)
endpoint_cells clock row =
    codes "<tr><td><code>" ∷ html_text row.identifier
    ∷ codes "</code><td class=a>" ∷ aliases_html row.aliases row.alias_count
    ∷ codes "<td>" ∷ address_text row.call_signal
    ∷ codes "<td>" ∷ address_text row.ras
    ∷ codes "<td class=n>" ∷ decimal row.legs
    ∷ codes "<td class=n>" ∷ span_text (row.deadline - clock)
    ∷ codes "<td class=n>" ∷ span_text (clock - row.heard) ∷ codes " ago</tr>\n" ∷ []

unfoldable pub endpoint_html : ℕ → EndpointRow → List ℕ
endpoint_html clock row = concat (endpoint_cells clock row)

abbrev pub endpoint_rows : ℕ → List (Box EndpointRow Global) → List ℕ
endpoint_rows clock rows = flat_map (λ row. endpoint_html clock row.value) rows

-- the table of endpoints
abbrev pub endpoint_table_parts : ℕ → List (Box EndpointRow Global) → List (List ℕ)
endpoint_table_parts clock rows =
    codes "<div class=wide><table><thead><tr><th>Identifier<th>Aliases<th>Call signalling"
    ∷ codes
    "<th>RAS<th class=n>Calls<th class=n>Ends in<th class=n>Last heard</tr></thead><tbody>\n"
    ∷ endpoint_rows clock rows ∷ codes "</tbody></table></div>\n" ∷ []

unfoldable pub endpoint_table : ℕ → List (Box EndpointRow Global) → List ℕ
endpoint_table clock rows = concat (endpoint_table_parts clock rows)

abbrev pub endpoints_html : ℕ → List (Box EndpointRow Global) → List ℕ
endpoints_html clock rows =
    cond (length rows == 0) (codes "<p class=none>There are no endpoints to show.</p>\n")
    (endpoint_table clock rows)

-- the other endpoint of a call, if it was admitted too
unfoldable pub second_html : Option (List ℕ) → List ℕ
second_html (Some identifier) = codes "<code>" ++ html_text identifier ++ codes "</code>"
second_html None = codes "<span class=none>none</span>"

-- a call: its endpoints, its bandwidth in units of 100 bit/s and in kbit/s, its pool, and its key
abbrev pub call_cells : CallRow → List (List ℕ)
call_cells row =
    codes "<tr><td><code>" ∷ html_text row.first
    ∷ codes "</code><td>" ∷ second_html row.second
    ∷ codes "<td class=n>" ∷ decimal row.units
    ∷ codes "<td class=n>" ∷ tenths_text row.units
    ∷ codes "<td class=n>" ∷ decimal row.pool
    ∷ codes "<td><code>" ∷ key_text row.key ∷ codes "</code></tr>\n" ∷ []

unfoldable pub call_html : CallRow → List ℕ
call_html row = concat (call_cells row)

abbrev pub call_rows : List (Box CallRow Global) → List ℕ
call_rows rows = flat_map (λ row. call_html row.value) rows

-- the table of calls
abbrev pub call_table_parts : List (Box CallRow Global) → List (List ℕ)
call_table_parts rows =
    codes "<div class=wide><table><thead><tr><th>First endpoint<th>Second endpoint<th class=n>Units"
    ∷ codes "<th class=n>kbit/s<th class=n>Pool<th>Key</tr></thead><tbody>\n"
    ∷ call_rows rows ∷ codes "</tbody></table></div>\n" ∷ []

unfoldable pub call_table : List (Box CallRow Global) → List ℕ
call_table rows = concat (call_table_parts rows)

abbrev pub calls_html : List (Box CallRow Global) → List ℕ
calls_html rows =
    cond (length rows == 0) (codes "<p class=none>There are no calls to show.</p>\n")
    (call_table rows)
