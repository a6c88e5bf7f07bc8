-- Aliases (H.225.0, AliasAddress).
use Rattle.std.specs.Prelude.{ℕ, ◌+◌, List, [], ◌∷◌, ◌++◌, Bool, Option, Some, None, nat_eq, nat_lt}
use Rattle.std.specs.Prelude.{if◌then◌else◌}
use Rattle.ras_module.specs.declared.alias.Alias.{Alias}
use Rattle.ras_module.specs.declared.alias.Alias.TheVariants.{Digits, H323Id}
use Rattle.ras_grammar.specs.declared.fault.ReadFault.TheVariants.{BadCharacter}
use Rattle.ras_grammar.specs.Grammar.{Grammar, ◌>>=◌, is, failure, bits, whole, length, aligned}
use Rattle.ras_grammar.specs.Grammar.{each, either, if◌equals◌take◌else◌}
use Rattle.ras_grammar.specs.Sequences.{list_skipped, choice, bmp_string}

-- the character of a code, in the order of the permitted alphabet: # * , 0 to 9
abbrev pub digit_of : ℕ → ℕ
digit_of code =
    if nat_eq code 0 then 35
    else if nat_eq code 1 then 42
    else if nat_eq code 2 then 44
    else code + 45

-- a character that may be dialled, in four bits
unfoldable pub digit : Grammar ℕ
digit = do
  code ← bits 4
  either (nat_lt 12 code) (failure BadCharacter) (is (digit_of code))

-- IA5String (SIZE(1..128)) (FROM "0123456789#*,")
unfoldable pub dialled_digits : Grammar (List ℕ)
dialled_digits = do
  count ← whole 1 128
  aligned (each count digit)

abbrev pub root_alias : ℕ → Grammar (Option Alias)
root_alias index =
    if index equals 0 take (do
      text ← dialled_digits
      is (Some (Digits text)))
    else (do
      text ← bmp_string 256
      is (Some (H323Id text)))

-- AliasAddress: dialledDigits, h323-ID; None for any other
unfoldable pub alias_address : Grammar (Option Alias)
alias_address = choice 1 None root_alias

-- SEQUENCE OF AliasAddress, dropped
unfoldable pub skipped_aliases : Grammar (Unit {0})
skipped_aliases = list_skipped alias_address

-- the served aliases of a list, in order
abbrev pub served_in : List (Option Alias) → List Alias
served_in [] = []
served_in (Some alias ∷ others) = alias ∷ served_in others
served_in (None ∷ others) = served_in others

-- aliases, and one more if it is served
abbrev pub keeping : List Alias → Option Alias → List Alias
keeping front None = front
keeping front (Some alias) = front ++ alias ∷ []

-- this many aliases, of which the served ones are kept
abbrev pub served_each : ℕ → Grammar (List Alias)
served_each count = do
  all ← each count alias_address
  is (served_in all)

-- SEQUENCE OF AliasAddress: the served aliases
unfoldable pub alias_list : Grammar (List Alias)
alias_list = do
  count ← length
  served_each count

-- the same if it is OPTIONAL
abbrev pub optional_aliases : Bool → Grammar (List Alias)
optional_aliases present = either present alias_list (is [])
