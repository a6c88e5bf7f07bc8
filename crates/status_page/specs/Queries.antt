-- Queries of pages with rows: parts `NAME=VALUE`, with & between them.
use Rattle.std.specs.Prelude.{ℕ, ◌==◌, nat_eq, length, cond, List, [], ◌∷◌, codes, Option, Some}
use Rattle.std.specs.Prelude.{None, option_and_then, option_map, Result, Ok, Err}
use Rattle.std.specs.Str.{bytes_eq}
use Rattle.hex.specs.Hex.{decode_sized}
use Rattle.hex.specs.declared.error.FromHexError.{FromHexError}
use Rattle.percent_encoding.specs.Percent.{percent_decode}
use Rattle.ras_module.specs.declared.call_key.CallKey.{CallKey}
use Rattle.value_texts.specs.Parts.{front_part, rest_part}
use Rattle.value_texts.specs.Texts.{name_of, number_of}
use Rattle.status_page.specs.declared.query.Query.{Query}
use Rattle.status_page.specs.declared.query.Table.{Table}
use Rattle.status_page.specs.declared.query.Table.TheVariants.{Home, Endpoints, Calls}

-- the parts of a text, with this character before the first of them
abbrev pub begun_by : ℕ → List (List ℕ) → List (List ℕ)
begun_by c [] = (c ∷ []) ∷ []
begun_by c (part ∷ parts) = (c ∷ part) ∷ parts

-- the parts of a text between its marks
abbrev pub parts_of : ℕ → List ℕ → List (List ℕ)
parts_of mark [] = [] ∷ []
parts_of mark (c ∷ cs) = cond (c == mark) ([] ∷ parts_of mark cs) (begun_by c (parts_of mark cs))

-- an identifier in UTF-8, percent-encoded
abbrev pub identifier_of : List ℕ → Option (List ℕ)
identifier_of value = name_of (percent_decode value)

abbrev pub key_with : Result (List ℕ) FromHexError → Option CallKey
key_with (Ok octets) = Some (record { octets = octets })
key_with (Err fault) = None

-- the key of a call, in 32 digits of base 16
abbrev pub key_of : List ℕ → Option CallKey
key_of value = key_with (decode_sized value 16)

-- what each parameter sets, if it has such a value
abbrev pub with_endpoint : Query → List ℕ → Option Query
with_endpoint query value =
    option_map (λ identifier. record query { endpoint = Some identifier }) (identifier_of value)

abbrev pub with_call : Query → List ℕ → Option Query
with_call query value = option_map (λ key. record query { call = Some key }) (key_of value)

abbrev pub with_most : Query → List ℕ → Option Query
with_most query value =
    option_map (λ number. record query { most = number }) (number_of 1 200 value)

-- the parameters of each page
abbrev pub with_parameter : Table → Query → List ℕ → List ℕ → Option Query
with_parameter Home query name value =
    cond (bytes_eq name (codes "endpoints")) (with_endpoint query value)
    (cond (bytes_eq name (codes "calls")) (with_call query value) None)
with_parameter Endpoints query name value =
    cond (bytes_eq name (codes "after")) (with_endpoint query value)
    (cond (bytes_eq name (codes "most")) (with_most query value) None)
with_parameter Calls query name value =
    cond (bytes_eq name (codes "after")) (with_call query value)
    (cond (bytes_eq name (codes "most")) (with_most query value) None)

-- a query with one more part; an empty part says nothing
abbrev pub with_part : Table → Query → List ℕ → Option Query
with_part table query part =
    cond (nat_eq (length part) 0) (Some query)
    (with_parameter table query (front_part 61 part) (rest_part 61 part))

-- a query with its parts, one after another: the last value of a parameter counts
abbrev pub with_parts : Table → Query → List (List ℕ) → Option Query
with_parts table query [] = Some query
with_parts table query (part ∷ parts) =
    option_and_then (λ changed. with_parts table changed parts) (with_part table query part)

-- without parts: from the first row on, a hundred rows
abbrev pub start_of : Query
start_of = record { endpoint = None; call = None; most = 100 }

-- what a query asks for
abbrev pub query_of : Table → List ℕ → Option Query
query_of table text = with_parts table start_of (parts_of 38 text)
