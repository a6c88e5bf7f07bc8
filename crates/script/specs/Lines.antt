-- What a line of a script says; none if it is not understood.
use Rattle.std.specs.Prelude.{ℕ, ◌-◌, ◌^◌, List, [], ◌∷◌, Option, Some, None, codes, if◌then◌else◌}
use Rattle.std.specs.Str.{bytes_eq}
use Rattle.zone_events.specs.declared.event.Event.TheVariants.{Datagram, Turn}
use Rattle.script.specs.declared.event.ScriptEvent.TheVariants.{Event, Replace}
use Rattle.script.specs.declared.line.Line.{Line}
use Rattle.script.specs.declared.line.Line.TheVariants.{Blank, Zone, Set, Pool, At}
use Rattle.script.specs.Words.{words_of}
use Rattle.value_texts.specs.Texts.{◌>>=◌, number_of, address_of, name_of}
use Rattle.script.specs.Fields.{octets_of}
use Rattle.script.specs.Settings.{setting_of}
use Rattle.script.specs.Pools.{pool_of, fresh_pool}

-- `NAME ADDRESS`
abbrev pub zone_line : List (List ℕ) → Option Line
zone_line (name ∷ address ∷ []) = do
  name ← name_of name
  address ← address_of address
  Some (Zone name address)
zone_line other = None

-- `KEY NUMBER`
abbrev pub set_line : List (List ℕ) → Option Line
set_line (key ∷ number ∷ []) = do
  setting ← setting_of key number
  Some (Set setting)
set_line other = None

-- a kind of pool with its numbers, and perhaps a network
abbrev pub pool_line : List (List ℕ) → Option Line
pool_line words = do
  pool ← pool_of words
  Some (Pool pool)

-- milliseconds, below 2^53
abbrev pub moment_of : List ℕ → Option ℕ
moment_of word = number_of 0 (2 ^ 53 - 1) word

-- a datagram of these octets comes from this address
abbrev pub datagram_of : List ℕ → List ℕ → List ℕ → Option Line
datagram_of moment address hex = do
  moment ← moment_of moment
  source ← address_of address
  octets ← octets_of hex
  Some (At (Event (Datagram source octets moment)))

-- `MS from ADDRESS HEX`
abbrev pub event_of : List ℕ → List ℕ → List ℕ → List ℕ → Option Line
event_of moment from address hex =
    if bytes_eq from (codes "from") then datagram_of moment address hex else None

-- the octets may be empty, and the line then ends with the address
abbrev pub at_line : List (List ℕ) → Option Line
at_line (moment ∷ from ∷ address ∷ []) = event_of moment from address []
at_line (moment ∷ from ∷ address ∷ hex ∷ []) = event_of moment from address hex
at_line other = None

-- `MS`
abbrev pub turn_line : List (List ℕ) → Option Line
turn_line (moment ∷ []) = do
  moment ← moment_of moment
  Some (At (Event (Turn moment)))
turn_line other = None

-- the number of a pool, below 2^64: no pool need have it
abbrev pub number_of_pool : List ℕ → Option ℕ
number_of_pool word = number_of 0 (2 ^ 64 - 1) word

-- `MS I`, and a pool
abbrev pub replace_line : List (List ℕ) → Option Line
replace_line (moment ∷ pool ∷ words) = do
  moment ← moment_of moment
  pool ← number_of_pool pool
  fresh ← fresh_pool words
  Some (At (Replace (record { pool = pool; fresh = fresh; moment = moment })))
replace_line other = None

-- the first word says what kind of line it is
abbrev pub line_of_words : List (List ℕ) → Option Line
line_of_words [] = Some Blank
line_of_words (kind ∷ words) =
    if bytes_eq kind (codes "zone") then zone_line words
    else if bytes_eq kind (codes "set") then set_line words
    else if bytes_eq kind (codes "pool") then pool_line words
    else if bytes_eq kind (codes "at") then at_line words
    else if bytes_eq kind (codes "turn") then turn_line words
    else if bytes_eq kind (codes "replace") then replace_line words
    else None

unfoldable pub line_of : List ℕ → Option Line
line_of line = line_of_words (words_of line)
