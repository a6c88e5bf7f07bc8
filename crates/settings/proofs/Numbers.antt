-- The numbers of a zone, read one key after the other.
use Rattle.std.proofs.Common.{◌≡◌, ◌+◌, ◌<◌, ◌≤◌, ◌∙◌, ℕ, List, [], codes, length}
use Rattle.std.proofs.Common.{get_or, drop, Ok, Err}
use Rattle.std.proofs.lemmas.List.{drop_more}
use Rattle.std.proofs.Math.ListN.{drop_of_length-le}
use Rattle.toml.specs.Data.{Members, get_member}
use Rattle.ras_module.specs.declared.address.Address.{Address as AddressValue}
use Rattle.value_texts.specs.Texts as texts
use Rattle.zone_config.specs.declared.config.ConfigParts.{ConfigParts}
use Rattle.zone_config.specs.declared.key.Key.{Key}
use Rattle.zone_config.specs.Defaults.{default_parts}
use Rattle.zone_config.specs.Keys.{all_keys, with_number}
use Rattle.settings.specs.declared.fault.Refusal.{Refusal}
use Rattle.settings.specs.declared.setting_key.SettingKey.TheVariants.{Identifier, Address}
use Rattle.settings.specs.Values.{◌>>=◌, required_text}
use Rattle.settings.specs.Zones.{with_numbers, zone_number, zone_of}

-- the numbers from a key on begin with the key's own
next_number : (table : Members) (keys : List Key) (i : ℕ) (d : Key) (parts : ConfigParts)
    → i < length keys
    → with_numbers table (drop i keys) parts
    ≡ (zone_number table (get_or keys i d)
    >>= (λ number. with_numbers table (drop (i + 1) keys)
    (with_number parts (get_or keys i d) number)))
unfolding with_numbers
next_number table keys i d parts below = rw (drop_more keys i d below)

pub refused_number : (table : Members) (keys : List Key) (i : ℕ) (d : Key) (parts : ConfigParts)
    (refusal : Refusal) → i < length keys → zone_number table (get_or keys i d) ≡ Err refusal
    → with_numbers table (drop i keys) parts ≡ Err refusal
refused_number table keys i d parts refusal below is =
    next_number table keys i d parts below ∙ rw is

pub read_number : (table : Members) (keys : List Key) (i : ℕ) (d : Key) (parts : ConfigParts)
    (number : ℕ) → i < length keys → zone_number table (get_or keys i d) ≡ Ok number
    → with_numbers table (drop i keys) parts
    ≡ with_numbers table (drop (i + 1) keys) (with_number parts (get_or keys i d) number)
read_number table keys i d parts number below is =
    next_number table keys i d parts below ∙ rw is

pub no_number_left : (table : Members) (keys : List Key) (i : ℕ) (parts : ConfigParts)
    → length keys ≤ i → with_numbers table (drop i keys) parts ≡ Ok parts
unfolding with_numbers
no_number_left table keys i parts over = rw (drop_of_length-le keys over)

-- what stands in a table where its identifier and its address are read
pub read_zone : (table : Members) (identifier : List ℕ) (address : AddressValue)
    → required_text Identifier texts.name_of (get_member (codes "identifier") table)
    ≡ Ok identifier
    → required_text Address texts.address_of (get_member (codes "address") table) ≡ Ok address
    → zone_of table ≡ with_numbers table all_keys (default_parts identifier address [])
unfolding zone_of
read_zone table identifier address named placed = rw (named, placed)
