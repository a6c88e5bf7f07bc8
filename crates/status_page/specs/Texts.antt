-- Parts of texts.
use Rattle.std.specs.Prelude.{ℕ, ◌+◌, List, [], ◌∷◌, ◌++◌, codes, get_or, flat_map, encode_utf8_all}
use Rattle.std.specs.Char.Utf16.{utf16_lossy_chars}
use Rattle.std.specs.Fmt.{decimal}
use Rattle.std.specs.List.{concat}
use Rattle.escapes.specs.Escapes.{json_piece, label_piece}
use Rattle.hex.specs.Hex.{encode_lower}
use Rattle.ras_module.specs.declared.address.Address.{Address}
use Rattle.ras_module.specs.declared.alias.Alias.{Alias}
use Rattle.ras_module.specs.declared.alias.Alias.TheVariants.{Digits, H323Id}
use Rattle.ras_module.specs.declared.call_key.CallKey.{CallKey}

-- characters of strangers between the quotes of a string in JSON, and of a label's value
abbrev pub json_text : List ℕ → List ℕ
json_text units = encode_utf8_all (flat_map json_piece (utf16_lossy_chars units))

abbrev pub label_text : List ℕ → List ℕ
label_text units = encode_utf8_all (flat_map label_piece (utf16_lossy_chars units))

-- an address, as in 10.0.0.1:1719
abbrev pub address_parts : Address → List (List ℕ)
address_parts address =
    decimal (get_or address.ip 0 0) ∷ codes "." ∷ decimal (get_or address.ip 1 0) ∷ codes "."
    ∷ decimal (get_or address.ip 2 0) ∷ codes "." ∷ decimal (get_or address.ip 3 0) ∷ codes ":"
    ∷ decimal address.port ∷ []

unfoldable pub address_text : Address → List ℕ
address_text address = concat (address_parts address)

-- the characters of an alias
abbrev pub units_of : Alias → List ℕ
units_of (Digits digits) = digits
units_of (H323Id id) = id

-- the key of a call, in digits of base 16
abbrev pub key_text : CallKey → List ℕ
key_text key = encode_lower key.octets

-- the texts of these, the first behind one text, and each further one behind another
abbrev pub listed : {A : Type 0} → List ℕ → List ℕ → (A → List ℕ) → List A → List ℕ
listed before mark text [] = []
listed before mark text (x ∷ xs) = before ++ text x ++ listed mark mark text xs

-- the texts of these, with commas between them
abbrev pub with_commas : {A : Type 0} → (A → List ℕ) → List A → List ℕ
with_commas text xs = listed [] (codes ",") text xs

-- the texts of these, each with its place, which is counted from this one on
abbrev pub numbered : {A : Type 0} → (ℕ → A → List ℕ) → ℕ → List A → List ℕ
numbered text place [] = []
numbered text place (x ∷ xs) = text place x ++ numbered text (place + 1) xs
