-- Numbers that are read one after the other are in their ranges.
use Rattle.std.proofs.Common.{◌≡◌, ℕ, true, false, List, [], ◌∷◌, refl, subst}
use Rattle.std.proofs.Common.{None}
use Rattle.std.specs.List.{list_any}
use Rattle.std.specs.Prelude.{Option}
use Rattle.ras_module.specs.declared.address.Address.{Address}
use Rattle.zone_config.specs.declared.config.ConfigParts.{ConfigParts}
use Rattle.zone_config.specs.declared.key.Key.{Key}
use Rattle.zone_config.specs.declared.key.Key.TheVariants.{Limit, CallLimit, TimeToLive, Endpoints}
use Rattle.zone_config.specs.declared.key.Key.TheVariants.{Calls, Kept, Window, Silence, Delay}
use Rattle.zone_config.specs.declared.key.Key.TheVariants.{Retries, Asks, AskWait, PoolTurn}
use Rattle.zone_config.specs.declared.key.Key.TheVariants.{LeastGrant}
use Rattle.zone_config.specs.declared.network.Network.{Network}
use Rattle.zone_config.specs.Defaults.{default_parts}
use Rattle.zone_config.specs.Keys.{takes, with_number}
use Rattle.zone_config.specs.Networks.{is_too_long}
use Rattle.zone_config.specs.Ranges.{IsConfig, range_fault, fault_with, key_outside}
use Rattle.zone_config.proofs.RangesKept.{keys_inside}
use Rattle.zone_config.proofs.Staying.{stays_config, defaults_in_range}
use Rattle.settings.specs.Ranges.{HasNumbersInRange, with_one_pool}

-- a number is entered beside the networks
beside : (parts : ConfigParts) (key : Key) (number : ℕ)
    → with_number (with_one_pool parts) key number ≡ with_one_pool (with_number parts key number)
beside parts Limit number = refl
beside parts CallLimit number = refl
beside parts TimeToLive number = refl
beside parts Endpoints number = refl
beside parts Calls number = refl
beside parts Kept number = refl
beside parts Window number = refl
beside parts Silence number = refl
beside parts Delay number = refl
beside parts Retries number = refl
beside parts Asks number = refl
beside parts AskWait number = refl
beside parts PoolTurn number = refl
beside parts LeastGrant number = refl

pub stays_in_range : (parts : ConfigParts) (key : Key) (number : ℕ) → takes key number ≡ true
    → HasNumbersInRange parts → HasNumbersInRange (with_number parts key number)
stays_in_range parts key number taken inside =
    subst IsConfig (beside parts key number)
    (stays_config (with_one_pool parts) key number taken inside)

pub defaults_are_in_range : (identifier : List ℕ) (address : Address)
    → HasNumbersInRange (default_parts identifier address [])
defaults_are_in_range identifier address = record {
  ranges = defaults_in_range identifier address (None ∷ []) refl;
  default_pool = refl;
}

bits_behind : (outside : Option Key) (networks : List (Option Network)) → outside ≡ None
    → list_any is_too_long networks ≡ false → fault_with outside networks ≡ None
bits_behind outside networks inside bits = rw (inside, bits)

-- numbers in their ranges stay so beside any networks
pub with_networks : (parts : ConfigParts) (networks : List (Option Network))
    → HasNumbersInRange parts → list_any is_too_long networks ≡ false
    → range_fault (record parts { networks = networks }) ≡ None
unfolding range_fault
with_networks parts networks inside bits =
    bits_behind (key_outside parts) networks (keys_inside (with_one_pool parts) inside.ranges) bits
