-- Lists, additions and unknown alternatives (X.691), and the small types that many messages
-- share (H.225.0).
use Rattle.std.specs.Prelude.{ℕ, ◌+◌, List, [], ◌∷◌, Bool, true, false, Option, slice_index_or}
use Rattle.ras_grammar.specs.Grammar.{Grammar, ◌>>=◌, is, nothing, boolean, bits, whole}
use Rattle.ras_grammar.specs.Grammar.{choice_index}
use Rattle.ras_grammar.specs.Grammar.{length, small, octets, open_type, inside, aligned, either}
use Rattle.ras_grammar.specs.Grammar.{if◌equals◌take◌else◌, each, each_skipped, optional, skipped}

-- SEQUENCE OF without a size, whose items are dropped: how many there are, and each
abbrev pub list_skipped : {A : Type 0} → Grammar A → Grammar (Unit {0})
list_skipped g = do
  count ← length
  each_skipped count g

-- Which additions of a SEQUENCE are there, by their indexes. There are none if its extension bit is
-- not set.
abbrev pub additions : Bool → Grammar (List Bool)
additions true = do
  more ← small
  each (more + 1) boolean
additions false = is []

abbrev pub is_present : List Bool → ℕ → Bool
is_present present index = slice_index_or present index false

-- the addition of an index, whose value is wanted
abbrev pub addition : {A : Type 0} → List Bool → ℕ → Grammar A → Grammar (Option A)
addition present index g = optional (is_present present index) (inside g)

-- the addition of an index, whatever it is
abbrev pub skipped_addition : List Bool → ℕ → Grammar (Unit {0})
skipped_addition present index = skipped (is_present present index) open_type

abbrev pub skipped_each : List Bool → Grammar (Unit {0})
skipped_each [] = nothing
skipped_each (present ∷ others) = do
  one ← skipped present open_type
  skipped_each others

-- all additions, whatever they are
abbrev pub skipped_additions : Bool → Grammar (Unit {0})
skipped_additions extended = do
  present ← additions extended
  skipped_each present

-- An alternative of a CHOICE that is no root alternative, whatever it is.
abbrev pub unknown_alternative : {A : Type 0} → A → Grammar A
unknown_alternative x = do
  index ← small
  value ← open_type
  is x

-- CHOICE with an extension marker: the root alternatives up to the last index, and one value for
-- all others
abbrev pub choice : {A : Type 0} → ℕ → A → (ℕ → Grammar A) → Grammar A
choice last unknown root = do
  extended ← boolean
  either extended (unknown_alternative unknown) (do
    index ← choice_index last
    root index)

-- a CHOICE of NULLs, by the index of its last root alternative
abbrev pub null_choice : ℕ → Grammar (Unit {0})
null_choice last = choice last tt (λ index. nothing)

-- OCTET STRING without a size
abbrev pub octet_string : Grammar (List ℕ)
octet_string = do
  count ← length
  octets count

-- OCTET STRING (SIZE(lo..hi))
abbrev pub sized_octet_string : ℕ → ℕ → Grammar (List ℕ)
sized_octet_string lo hi = do
  count ← whole lo hi
  octets count

-- OBJECT IDENTIFIER: the octets of its contents, whatever they are
abbrev pub object_identifier : Grammar (List ℕ)
object_identifier = octet_string

-- RequestSeqNum (H.225.0)
abbrev pub request_seq_num : Grammar ℕ
request_seq_num = whole 1 65535

-- ProtocolIdentifier (H.225.0): any version
abbrev pub protocol_identifier : Grammar (List ℕ)
protocol_identifier = object_identifier

-- BMPString (SIZE(1..most))
unfoldable pub bmp_string : ℕ → Grammar (List ℕ)
bmp_string most = do
  count ← whole 1 most
  aligned (each count (bits 16))

-- GatekeeperIdentifier, EndpointIdentifier (H.225.0)
abbrev pub identifier : Grammar (List ℕ)
identifier = bmp_string 128

-- BandWidth, in units of 100 bit/s
abbrev pub band_width : Grammar ℕ
band_width = whole 0 4294967295

-- CallReferenceValue
abbrev pub call_reference : Grammar ℕ
call_reference = whole 0 65535

-- ConferenceIdentifier
abbrev pub conference_identifier : Grammar (List ℕ)
conference_identifier = octets 16

-- CallIdentifier; no more of its open type is read
unfoldable pub call_identifier : Grammar (List ℕ)
call_identifier = do
  extended ← boolean
  octets 16

-- TimeToLive, in seconds
abbrev pub time_to_live : Grammar ℕ
time_to_live = whole 1 4294967295

-- H221NonStandard (H.225.0)
unfoldable pub h221_non_standard : Grammar (Unit {0})
h221_non_standard = do
  extended ← boolean
  country ← whole 0 255
  extension ← whole 0 255
  manufacturer ← whole 0 65535
  skipped_additions extended

-- NonStandardIdentifier (H.225.0): object, h221NonStandard
unfoldable pub non_standard_identifier : Grammar (Unit {0})
non_standard_identifier = choice 1 tt (λ index.
    if index equals 0 take skipped true object_identifier
    else h221_non_standard)

-- NonStandardParameter (H.225.0), which has no extension marker
unfoldable pub non_standard_parameter : Grammar (Unit {0})
non_standard_parameter = do
  who ← non_standard_identifier
  what ← octet_string
  nothing
