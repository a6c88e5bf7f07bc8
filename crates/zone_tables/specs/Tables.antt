-- What the tables of a zone have.
use Rattle.std.specs.Prelude.{ℕ, List, [], Option, Some, None}
use Rattle.std.specs.FinMap.{empty}
use Rattle.keyed.specs.Maps.{update}
use Rattle.ras_module.specs.declared.address.Address.{Address}
use Rattle.registrations.specs.declared.registration.Registration.{Registration}
use Rattle.registrations.specs.Registry.{Live, after_hear, at_address}
use Rattle.admission.specs.Calls.{OpenCalls}
use Rattle.pools.specs.declared.interface.Figures.{Figures}
use Rattle.zone_config.specs.declared.config.ConfigParts.{ConfigParts}

-- The tables of a zone: its settings, which endpoints are registered, the calls, and the figures of
-- its pools.
pub record Tables : Type 0 where
  pub config : ConfigParts
  pub live : Live
  pub calls : OpenCalls
  pub pools : List Figures

-- the tables in which nobody is registered and no call is open
abbrev pub empty_tables : ConfigParts → List Figures → Tables
empty_tables config pools = record {
  config = config;
  live = empty;
  calls = empty;
  pools = pools;
}

-- the tables in which this is registered instead
abbrev pub with_live : Tables → Live → Tables
with_live z live = record z { live = live }

-- the tables in which these calls are open instead
abbrev pub with_calls : Tables → OpenCalls → Tables
with_calls z calls = record z { calls = calls }

-- the endpoint was heard now, if it is registered
abbrev pub heard_now : ℕ → List ℕ → Live → Live
heard_now now id live = update live id (after_hear now)

-- the identifier of an endpoint, if there is one
abbrev pub identifier_or_none : Option Registration → List ℕ
identifier_or_none None = []
identifier_or_none (Some r) = r.identifier

-- that of the endpoint with this call signal address
abbrev pub identifier_at : Live → Address → List ℕ
identifier_at live address = identifier_or_none (at_address live address)
