-- What each character of a text becomes, and what it is that no character is left unescaped.
use Rattle.std.specs.Prelude.{ℕ, Bool, true, false, cond, ◌&&◌, ◌||◌, nat_eq, nat_lt, ◌+◌, ◌/◌, ◌%◌}
use Rattle.std.specs.Prelude.{List, [], ◌∷◌, codes, take}
use Rattle.std.specs.Str.{bytes_eq}

-- what a character becomes in HTML
abbrev pub html_piece : ℕ → List ℕ
html_piece c =
    cond (nat_eq c 38) (codes "&amp;")
    (cond (nat_eq c 60) (codes "&lt;")
    (cond (nat_eq c 62) (codes "&gt;")
    (cond (nat_eq c 34) (codes "&quot;")
    (cond (nat_eq c 39) (codes "&#39;") (c ∷ [])))))

-- what a character becomes in the value of a label, in Prometheus' text format
abbrev pub label_piece : ℕ → List ℕ
label_piece c =
    cond (nat_eq c 92) (92 ∷ 92 ∷ [])
    (cond (nat_eq c 34) (92 ∷ 34 ∷ [])
    (cond (nat_eq c 10) (92 ∷ 110 ∷ []) (c ∷ [])))

-- the digit of a number below 16
abbrev pub hex_digit : ℕ → ℕ
hex_digit d = cond (nat_lt d 10) (48 + d) (87 + d)

-- whether a character is a control character (Unicode, category Cc)
abbrev pub is_control : ℕ → Bool
is_control c = nat_lt c 32 || (nat_lt 126 c && nat_lt c 160)

-- what a character becomes between the quotes of a string in JSON
abbrev pub json_piece : ℕ → List ℕ
json_piece c =
    cond (nat_eq c 92) (92 ∷ 92 ∷ [])
    (cond (nat_eq c 34) (92 ∷ 34 ∷ [])
    (cond (nat_eq c 60) (codes "\\u003c")
    (cond (nat_eq c 0x2028) (codes "\\u2028")
    (cond (nat_eq c 0x2029) (codes "\\u2029")
    (cond (is_control c) (92 ∷ 117 ∷ 48 ∷ 48 ∷ hex_digit (c / 16) ∷ hex_digit (c % 16) ∷ [])
    (c ∷ []))))))

-- whether a character can't stand in a text of HTML, nor between quotes there
abbrev pub is_html_mark : ℕ → Bool
is_html_mark c = nat_eq c 60 || nat_eq c 62 || nat_eq c 34 || nat_eq c 39

-- whether a text begins with what comes after the & of one of five references
abbrev pub begins_reference : List ℕ → Bool
begins_reference cs = bytes_eq (take 4 cs) (codes "amp;") || bytes_eq (take 3 cs) (codes "lt;")
    || bytes_eq (take 3 cs) (codes "gt;") || bytes_eq (take 5 cs) (codes "quot;")
    || bytes_eq (take 4 cs) (codes "#39;")

-- whether no mark of HTML is left in a text, and each & begins a reference
abbrev pub is_html_text : List ℕ → Bool
is_html_text [] = true
is_html_text (c ∷ cs) =
    cond (nat_eq c 38) (begins_reference cs && is_html_text cs)
    (cond (is_html_mark c) false (is_html_text cs))

-- whether each backslash begins an escape, and no other character is one that has to be escaped
abbrev pub are_escaped : (ℕ → Bool) → (ℕ → Bool) → Bool → List ℕ → Bool
are_escaped escapes bare begun [] = cond begun false true
are_escaped escapes bare true (c ∷ cs) = escapes c && are_escaped escapes bare false cs
are_escaped escapes bare false (c ∷ cs) =
    cond (nat_eq c 92) (are_escaped escapes bare true cs)
    (cond (bare c) false (are_escaped escapes bare false cs))

-- in JSON (RFC 8259): what follows a backslash; what has to be escaped
abbrev pub ends_json : ℕ → Bool
ends_json c = nat_eq c 92 || nat_eq c 34 || nat_eq c 117

abbrev pub is_json_mark : ℕ → Bool
is_json_mark c = nat_eq c 34 || nat_eq c 60 || nat_eq c 0x2028 || nat_eq c 0x2029 || is_control c

abbrev pub is_json_text : List ℕ → Bool
is_json_text cs = are_escaped ends_json is_json_mark false cs

-- in a label's value in Prometheus' text format
abbrev pub ends_label : ℕ → Bool
ends_label c = nat_eq c 92 || nat_eq c 34 || nat_eq c 110

abbrev pub is_label_mark : ℕ → Bool
is_label_mark c = nat_eq c 34 || nat_eq c 10

abbrev pub is_label_text : List ℕ → Bool
is_label_text cs = are_escaped ends_label is_label_mark false cs
