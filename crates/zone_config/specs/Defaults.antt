-- The settings of a zone of which only the name, the address and the networks of the pools are set.
use Rattle.std.specs.Prelude.{ℕ, List, Option}
use Rattle.ras_module.specs.declared.address.Address.{Address}
use Rattle.zone_config.specs.declared.config.ConfigParts.{ConfigParts}
use Rattle.zone_config.specs.declared.key.Key.TheVariants.{Limit, CallLimit, TimeToLive, Endpoints}
use Rattle.zone_config.specs.declared.key.Key.TheVariants.{Calls, Kept, Window, Silence, Delay}
use Rattle.zone_config.specs.declared.key.Key.TheVariants.{Retries, Asks, AskWait, PoolTurn, LeastGrant}
use Rattle.zone_config.specs.declared.network.Network.{Network}
use Rattle.zone_config.specs.Keys.{default_of}

abbrev pub default_parts : List ℕ → Address → List (Option Network) → ConfigParts
default_parts identifier address networks = record {
  identifier = identifier;
  address = address;
  limit = default_of Limit;
  call_limit = default_of CallLimit;
  time_to_live = default_of TimeToLive;
  endpoints = default_of Endpoints;
  calls = default_of Calls;
  kept = default_of Kept;
  window = default_of Window;
  silence = default_of Silence;
  delay = default_of Delay;
  retries = default_of Retries;
  asks = default_of Asks;
  ask_wait = default_of AskWait;
  pool_turn = default_of PoolTurn;
  least_grant = default_of LeastGrant;
  networks = networks;
}
