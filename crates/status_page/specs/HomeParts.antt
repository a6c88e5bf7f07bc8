-- Small parts of the page for people.
use Rattle.std.specs.Prelude.{ℕ, ◌*◌, ◌/◌, ◌%◌, cond, min, nat_eq, nat_lt, List, [], ◌∷◌, ◌++◌}
use Rattle.std.specs.Prelude.{codes, map, flat_map, encode_utf8_all, Option, Some, None}
use Rattle.std.specs.Char.Utf16.{utf16_lossy_chars}
use Rattle.std.specs.Fmt.{decimal}
use Rattle.std.specs.List.{concat}
use Rattle.std.specs.Str.{chars}
use Rattle.escapes.specs.Escapes.{html_piece}
use Rattle.percent_encoding.specs.Percent.{percent_encode}
use Rattle.percent_encoding.specs.declared.ascii_set.TheConstants.{NON_ALPHANUMERIC}
use Rattle.ras_module.specs.declared.call_key.CallKey.{CallKey}
use Rattle.status_page.specs.Texts.{key_text}

-- characters of strangers as text in HTML
abbrev pub html_text : List ℕ → List ℕ
html_text units = encode_utf8_all (flat_map html_piece (utf16_lossy_chars units))

-- and as a value in a query: in UTF-8, percent-encoded but for letters and digits
abbrev pub value_text : List ℕ → List ℕ
value_text units = percent_encode NON_ALPHANUMERIC (encode_utf8_all (utf16_lossy_chars units))

-- how long something lasts: seconds if it's under a minute, else minutes, with the hours and days
-- that there are
abbrev pub days_text : ℕ → List ℕ
days_text seconds = cond (nat_lt seconds 86400) [] (decimal (seconds / 86400) ++ codes " d ")

abbrev pub hours_text : ℕ → List ℕ
hours_text seconds = cond (nat_lt seconds 3600) [] (decimal (seconds / 3600 % 24) ++ codes " h ")

abbrev pub seconds_text : ℕ → List ℕ
seconds_text seconds =
    cond (nat_lt seconds 60) (decimal seconds ++ codes " s")
    (days_text seconds ++ hours_text seconds ++ decimal (seconds / 60 % 60) ++ codes " min")

-- the same of milliseconds
unfoldable pub span_text : ℕ → List ℕ
span_text milliseconds = seconds_text (milliseconds / 1000)

-- a number of tenths, as in 6.4: thousandths in percent, or units of 100 bit/s in kbit/s
unfoldable pub tenths_text : ℕ → List ℕ
tenths_text tenths = decimal (tenths / 10) ++ codes "." ++ decimal (tenths % 10)

-- a label, with spaces in place of its underscores
abbrev pub spaced : ℕ → ℕ
spaced c = cond (nat_eq c 95) 32 c

unfoldable pub words_of : List ℕ → List ℕ
words_of label = encode_utf8_all (map spaced (chars label))

-- how many thousandths a part is of a whole: at most 1000, and 0 of nothing
unfoldable pub thousandths : ℕ → ℕ → ℕ
thousandths part whole = cond (nat_eq whole 0) 0 (min (part * 1000 / whole) 1000)

-- the shade of a bar: a warning from three quarters on, and an alarm from nineteen twentieths on
unfoldable pub shade : ℕ → List ℕ
shade share =
    cond (nat_lt share 750) []
    (cond (nat_lt share 950) (codes " class=warn") (codes " class=bad"))

-- a bar with the bandwidth in use against a limit, in units of 100 bit/s and in kbit/s
abbrev pub bar_parts : List ℕ → ℕ → ℕ → List (List ℕ)
bar_parts title in_use limit =
    codes "<div class=bar><p><b>" ∷ title
    ∷ codes "</b><b>" ∷ tenths_text (thousandths in_use limit)
    ∷ codes " %</b></p><div><i" ∷ shade (thousandths in_use limit)
    ∷ codes " style=\"width:" ∷ tenths_text (thousandths in_use limit)
    ∷ codes "%\"></i></div><p><span>" ∷ decimal in_use ∷ codes " of " ∷ decimal limit
    ∷ codes " units</span><span>" ∷ tenths_text in_use ∷ codes " of " ∷ tenths_text limit
    ∷ codes " kbit/s</span></p></div>\n" ∷ []

unfoldable pub bar_html : List ℕ → ℕ → ℕ → List ℕ
bar_html title in_use limit = concat (bar_parts title in_use limit)

-- a number, and what it counts
unfoldable pub tile_html : ℕ → List ℕ → List ℕ
tile_html number label =
    codes "<div><b>" ++ decimal number ++ codes "</b><span>" ++ label ++ codes "</span></div>\n"

-- a link to this page, with the endpoints behind this one and the calls behind this one
unfoldable pub endpoints_behind : Option (List ℕ) → List ℕ
endpoints_behind None = []
endpoints_behind (Some identifier) = codes "endpoints=" ++ value_text identifier

unfoldable pub calls_behind : Option CallKey → List ℕ
calls_behind None = []
calls_behind (Some key) = codes "&amp;calls=" ++ key_text key

abbrev pub link_parts : List ℕ → Option (List ℕ) → Option CallKey → List (List ℕ)
link_parts words endpoint call =
    codes "<a href=\"/?" ∷ endpoints_behind endpoint ∷ calls_behind call ∷ codes "\">" ∷ words
    ∷ codes "</a>\n" ∷ []

unfoldable pub link_html : List ℕ → Option (List ℕ) → Option CallKey → List ℕ
link_html words endpoint call = concat (link_parts words endpoint call)
