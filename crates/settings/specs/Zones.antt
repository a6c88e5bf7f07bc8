-- What the table `[zone]` sets.
use Rattle.std.specs.Prelude.{ℕ, List, [], ◌∷◌, codes, Result, Ok}
use Rattle.toml.specs.Data.{Members, get_member}
use Rattle.zone_config.specs.declared.config.ConfigParts.{ConfigParts}
use Rattle.zone_config.specs.declared.key.Key.{Key}
use Rattle.zone_config.specs.Defaults.{default_parts}
use Rattle.zone_config.specs.Keys.{all_keys, name_of, least_of, most_of, default_of, with_number}
use Rattle.value_texts.specs.Texts as texts
use Rattle.settings.specs.declared.fault.Refusal.{Refusal}
use Rattle.settings.specs.declared.setting_key.SettingKey.TheVariants.{Identifier, Address, Zone}
use Rattle.settings.specs.Values.{◌>>=◌, number_or, required_text}

-- the number of a key: that of the table, or its default
abbrev pub zone_number : Members → Key → Result ℕ Refusal
zone_number table key =
    number_or (Zone key) (least_of key) (most_of key) (default_of key)
    (get_member (name_of key) table)

-- the settings with the numbers of these keys, which are tested in order
unfoldable pub with_numbers : Members → List Key → ConfigParts → Result ConfigParts Refusal
with_numbers table [] parts = Ok parts
with_numbers table (key ∷ keys) parts = do
  number ← zone_number table key
  with_numbers table keys (with_number parts key number)

-- the identifier, the address and the numbers, tested in this order; the networks come with the
-- pools
unfoldable pub zone_of : Members → Result ConfigParts Refusal
zone_of table = do
  identifier ← required_text Identifier texts.name_of (get_member (codes "identifier") table)
  address ← required_text Address texts.address_of (get_member (codes "address") table)
  with_numbers table all_keys (default_parts identifier address [])
