-- The whole-number settings of a zone: for each key its name, its range and its default.
use Rattle.std.specs.Prelude.{ℕ, Bool, ◌++◌, List, [], ◌∷◌, nat_le, ◌&&◌, Option, codes}
use Rattle.std.specs.List.{find}
use Rattle.std.specs.Str.{bytes_eq}
use Rattle.zone_config.specs.declared.config.ConfigParts.{ConfigParts}
use Rattle.zone_config.specs.declared.key.Key.{Key}
use Rattle.zone_config.specs.declared.key.Key.TheVariants.{Limit, CallLimit, TimeToLive, Endpoints}
use Rattle.zone_config.specs.declared.key.Key.TheVariants.{Calls, Kept, Window, Silence, Delay}
use Rattle.zone_config.specs.declared.key.Key.TheVariants.{Retries, Asks, AskWait, PoolTurn, LeastGrant}

-- the row of a key in the table: its name, the least and the greatest number that it takes, and its
-- number if nothing is set
pub record Row : Type 0 where
  pub name : List ℕ
  pub least : ℕ
  pub most : ℕ
  pub default : ℕ

abbrev row_with : List ℕ → ℕ → ℕ → ℕ → Row
row_with name least most default =
    record { name = name; least = least; most = most; default = default }

abbrev pub row_of : Key → Row
row_of Limit = row_with (codes "limit") 1 1000000000000 100000
row_of CallLimit = row_with (codes "call_limit") 1 4294967295 20000
row_of TimeToLive = row_with (codes "time_to_live") 1 4294967295 60
row_of Endpoints = row_with (codes "endpoints") 1 20000 1000
row_of Calls = row_with (codes "calls") 1 20000 1000
row_of Kept = row_with (codes "kept") 1 65536 4096
row_of Window = row_with (codes "window") 1 3600000 10000
row_of Silence = row_with (codes "silence") 1 3600000 30000
row_of Delay = row_with (codes "delay") 1 65535 500
row_of Retries = row_with (codes "retries") 1 16 3
row_of Asks = row_with (codes "asks") 1 16 3
row_of AskWait = row_with (codes "ask_wait") 1 3600000 5000
row_of PoolTurn = row_with (codes "pool_turn") 1 86400000 1000
row_of LeastGrant = row_with (codes "least_grant") 0 4294967295 0

abbrev pub name_of : Key → List ℕ
name_of key = (row_of key).name

abbrev pub least_of : Key → ℕ
least_of key = (row_of key).least

abbrev pub most_of : Key → ℕ
most_of key = (row_of key).most

abbrev pub default_of : Key → ℕ
default_of key = (row_of key).default

-- its name among all settings
abbrev pub path_of : Key → List ℕ
path_of key = codes "zone." ++ name_of key

-- the order in which the ranges are tested
abbrev pub all_keys : List Key
all_keys =
    Limit ∷ CallLimit ∷ TimeToLive ∷ Endpoints ∷ Calls ∷ Kept ∷ Window ∷ Silence ∷ Delay ∷ Retries
    ∷ Asks ∷ AskWait ∷ PoolTurn ∷ LeastGrant ∷ []

abbrev pub has_name : List ℕ → Key → Bool
has_name word key = bytes_eq word (name_of key)

-- the key of this name
abbrev pub key_of : List ℕ → Option Key
key_of word = find (λ key. has_name word key) all_keys

-- the number lies in the range of the key
abbrev pub takes : Key → ℕ → Bool
takes key number = nat_le (least_of key) number && nat_le number (most_of key)

-- the number of a key
abbrev pub number_in : ConfigParts → Key → ℕ
number_in parts Limit = parts.limit
number_in parts CallLimit = parts.call_limit
number_in parts TimeToLive = parts.time_to_live
number_in parts Endpoints = parts.endpoints
number_in parts Calls = parts.calls
number_in parts Kept = parts.kept
number_in parts Window = parts.window
number_in parts Silence = parts.silence
number_in parts Delay = parts.delay
number_in parts Retries = parts.retries
number_in parts Asks = parts.asks
number_in parts AskWait = parts.ask_wait
number_in parts PoolTurn = parts.pool_turn
number_in parts LeastGrant = parts.least_grant

-- the settings with another number under this key
abbrev pub with_number : ConfigParts → Key → ℕ → ConfigParts
with_number parts Limit number = record parts { limit = number }
with_number parts CallLimit number = record parts { call_limit = number }
with_number parts TimeToLive number = record parts { time_to_live = number }
with_number parts Endpoints number = record parts { endpoints = number }
with_number parts Calls number = record parts { calls = number }
with_number parts Kept number = record parts { kept = number }
with_number parts Window number = record parts { window = number }
with_number parts Silence number = record parts { silence = number }
with_number parts Delay number = record parts { delay = number }
with_number parts Retries number = record parts { retries = number }
with_number parts Asks number = record parts { asks = number }
with_number parts AskWait number = record parts { ask_wait = number }
with_number parts PoolTurn number = record parts { pool_turn = number }
with_number parts LeastGrant number = record parts { least_grant = number }
