-- The ranges of a zone's settings, and the fault if a range is left.
use Rattle.std.specs.List.{find, list_any}
use Rattle.std.specs.Prelude.{ℕ, ◌≡◌, Bool, true, false, not, List, Option, Some, None}
use Rattle.std.specs.Prelude.{Result, Ok, Err, codes, if◌then◌else◌}
use Rattle.zone_config.specs.declared.config.ConfigParts.{ConfigParts}
use Rattle.zone_config.specs.declared.config.ConfigFault.{ConfigFault}
use Rattle.zone_config.specs.declared.config.ConfigFault.TheVariants.{OutOfRange, NoDefaultPool}
use Rattle.zone_config.specs.declared.key.Key.{Key}
use Rattle.zone_config.specs.declared.network.Network.{Network}
use Rattle.zone_config.specs.Keys.{all_keys, number_in, path_of, takes}
use Rattle.zone_config.specs.Networks.{has_default, is_too_long}

-- the number of the key is outside its range
abbrev pub is_outside : ConfigParts → Key → Bool
is_outside parts key = not (takes key (number_in parts key))

abbrev pub key_outside : ConfigParts → Option Key
key_outside parts = find (λ key. is_outside parts key) all_keys

abbrev pub fault_with : Option Key → List (Option Network) → Option (List ℕ)
fault_with (Some key) networks = Some (path_of key)
fault_with None networks =
    if list_any is_too_long networks then Some (codes "pool.network") else None

-- the path of the first key whose number is outside its range; after the keys come the networks
unfoldable pub range_fault : ConfigParts → Option (List ℕ)
range_fault parts = fault_with (key_outside parts) parts.networks

-- each number is in its range, and the last pool has no network
pub record IsConfig (parts : ConfigParts) : Type 0 where
  pub ranges : range_fault parts ≡ None
  pub default_pool : has_default parts.networks ≡ true

-- The settings are those of the configuration. Or the fault names the first key out of range, or,
-- after the keys, a network with too many bits. Or, if there is none of these, the fault is that
-- the last pool has a network, or that there is no pool.
abbrev pub IsConfigAnswer : ConfigParts → Result ConfigParts ConfigFault → Type 0
IsConfigAnswer parts (Ok config) = (config ≡ parts) × IsConfig parts
IsConfigAnswer parts (Err (OutOfRange key)) = range_fault parts ≡ Some key.now
IsConfigAnswer parts (Err NoDefaultPool) =
    (range_fault parts ≡ None) × (has_default parts.networks ≡ false)

-- the numbers of the faults
abbrev pub config_fault_number : ConfigFault → ℕ
config_fault_number (OutOfRange key) = 1
config_fault_number NoDefaultPool = 2
