-- The identifier of an endpoint that a RegistrationConfirm of this gatekeeper tells (H.225.0). What
-- follows the identifier is not read.
use Rattle.std.specs.Prelude.{ℕ, ◌*◌, ◌/◌, ◌%◌, ◌==◌, not, List, Bool, true, Option}
use Rattle.std.specs.Result.{result_ok}
use Rattle.per_bits.specs.Bits.{bits_of}
use Rattle.ras_grammar.specs.declared.fault.ReadFault.TheVariants.{BadChoice}
use Rattle.ras_grammar.specs.Grammar.{Grammar, ◌>>=◌, nothing, failure, boolean, bits, whole}
use Rattle.ras_grammar.specs.Grammar.{length, octets, aligned, either, skipped, choice_index}
use Rattle.ras_grammar.specs.Grammar.{value_of}
use Rattle.ras_grammar.specs.Sequences.{octet_string, list_skipped, identifier}

-- this gatekeeper writes no such thing
abbrev pub absent : Bool → Grammar (Unit {0})
absent present = either present (failure BadChoice) nothing

-- dialledDigits, of four bits each
unfoldable pub passed_digits : Grammar (Unit {0})
passed_digits = do
  count ← whole 1 128
  aligned (do
    pairs ← octets (count / 2)
    skipped (count % 2 == 1) (bits 4))

-- a BMPString of at most this many characters
unfoldable pub passed_text : ℕ → Grammar (Unit {0})
passed_text most = do
  count ← whole 1 most
  characters ← octets (2 * count)
  nothing

-- dialledDigits, or h323-ID
unfoldable pub passed_alias : Grammar (Unit {0})
passed_alias = do
  extended ← boolean
  root ← absent extended
  index ← choice_index 1
  either (index == 0) passed_digits (passed_text 256)

unfoldable pub passed_aliases : Grammar (Unit {0})
passed_aliases = list_skipped passed_alias

-- a list of one ipAddress
unfoldable pub passed_address : Grammar (Unit {0})
passed_address = do
  count ← length
  one ← absent (not (count == 1))
  extended ← boolean
  root ← absent extended
  index ← choice_index 6
  ip ← absent (not (index == 0))
  octets ← octets 4
  port ← whole 0 65535
  nothing

-- RegistrationConfirm, up to its endpointIdentifier
unfoldable pub confirmed_identifier : Grammar (List ℕ)
confirmed_identifier = do
  extended ← boolean
  has_non_standard_data ← boolean
  has_aliases ← boolean
  has_gatekeeper ← boolean
  seq ← whole 1 65535
  protocol ← skipped true octet_string
  non_standard_data ← absent has_non_standard_data
  call_signal ← passed_address
  aliases ← skipped has_aliases passed_aliases
  gatekeeper ← skipped has_gatekeeper (passed_text 128)
  identifier

-- RasMessage
unfoldable pub told_identifier : Grammar (List ℕ)
told_identifier = do
  extended ← boolean
  root ← absent extended
  index ← choice_index 24
  confirm ← absent (not (index == 4))
  confirmed_identifier

-- the identifier that octets tell
unfoldable pub told_in : List ℕ → Option (List ℕ)
told_in octets = result_ok (value_of (told_identifier.reading (bits_of octets)))
