-- Parts of the words, each as it follows a text, and mostly what stands before the part.
use Rattle.std.specs.Prelude.{ℕ, List, [], ◌∷◌, ◌++◌, Bool, codes, cond, get_or, Option, Some, None}
use Rattle.std.specs.Char.Utf16.{utf16_lossy_chars}
use Rattle.std.specs.Fmt.{decimal}
use Rattle.std.specs.List.{flat_map}
use Rattle.std.specs.Str.{encode_utf8_all}
use Rattle.escapes.specs.Escapes.{json_piece}
use Rattle.hex.specs.Hex.{encode_lower}
use Rattle.ras_module.specs.declared.address.Address.{Address}
use Rattle.ras_module.specs.declared.alias.Alias.{Alias}
use Rattle.ras_module.specs.declared.alias.Alias.TheVariants.{Digits, H323Id}
use Rattle.ras_module.specs.declared.call_key.CallKey.{CallKey}

abbrev pub with_number : List ℕ → List ℕ → ℕ → List ℕ
with_number text before number = text ++ before ++ decimal number

abbrev pub with_optional_number : List ℕ → List ℕ → Option ℕ → List ℕ
with_optional_number text before None = text
with_optional_number text before (Some number) = with_number text before number

-- an address, as in 10.0.0.1:1719
abbrev pub with_address : List ℕ → List ℕ → Address → List ℕ
with_address text before address =
    text ++ before ++ decimal (get_or address.ip 0 0)
    ++ codes "." ++ decimal (get_or address.ip 1 0)
    ++ codes "." ++ decimal (get_or address.ip 2 0)
    ++ codes "." ++ decimal (get_or address.ip 3 0)
    ++ codes ":" ++ decimal address.port

abbrev pub with_optional_address : List ℕ → List ℕ → Option Address → List ℕ
with_optional_address text before None = text
with_optional_address text before (Some address) = with_address text before address

-- characters of strangers, as they stand in a string of JSON, and the quote that ends it
unfoldable pub with_quoted : List ℕ → List ℕ → List ℕ → List ℕ
with_quoted text before units =
    text ++ before ++ encode_utf8_all (flat_map json_piece (utf16_lossy_chars units)) ++ codes "\""

abbrev pub with_optional_text : List ℕ → List ℕ → Option (List ℕ) → List ℕ
with_optional_text text before None = text
with_optional_text text before (Some units) = with_quoted text before units

-- an alias with its kind
abbrev pub with_alias : List ℕ → Alias → List ℕ
with_alias text (Digits digits) = with_quoted text (codes " dialledDigits \"") digits
with_alias text (H323Id id) = with_quoted text (codes " h323-ID \"") id

abbrev pub with_each_alias : List ℕ → List Alias → List ℕ
with_each_alias text [] = text
with_each_alias text (alias ∷ others) = with_each_alias (with_alias text alias) others

-- aliases in order, if there are any
unfoldable pub with_aliases : List ℕ → List ℕ → List Alias → List ℕ
with_aliases text before [] = text
with_aliases text before (alias ∷ others) = with_each_alias (text ++ before) (alias ∷ others)

-- a part that is there only if something is so
abbrev pub with_flag : List ℕ → List ℕ → Bool → List ℕ
with_flag text part is_so = cond is_so (text ++ part) text

-- the key of a call, in digits of base 16
abbrev pub with_key : List ℕ → CallKey → List ℕ
with_key text key = text ++ codes ", call " ++ encode_lower key.octets
