-- The parts of a zone: its endpoints, and its calls with the pools that lend them their units.
use Rattle.std.specs.Prelude.{ℕ, ◌≡◌, ◌≤◌, ◌<◌, ◌^◌, List, length}
use Rattle.std.specs.FinMap.{len}
use Rattle.registrations.specs.Registry.{LegCounts, Live, IsConsistent}
use Rattle.registrations.specs.declared.times.Times.{Times}
use Rattle.admission.specs.Calls.{OpenCalls, EachCall, IsCall, in_use}
use Rattle.admission.specs.declared.table.TheConstants.Calls as calls_table
use Rattle.pools.specs.declared.interface.Figures.{Figures}
use Rattle.zone_tables.specs.Tables.{Tables}
use Rattle.zone_tables.specs.Pools.{AreWithinLimits}
use Rattle.zone_config.specs.declared.config.ConfigParts.{ConfigParts}
use Rattle.zone_config.specs.Ranges.{IsConfig}
use Rattle.zone_tables.specs.Silence.{times_of}
use Rattle.zone_tables.specs.inside.Counted.{AreCounted}
use Rattle.zone_tables.specs.Soundness.{HaveAliasesApart, HaveEndpoints, IsLentTo}

-- the endpoints, and how many there may be
pub record Roll : Type 0 where
  pub live : Live
  pub most : ℕ

-- the endpoints with the numbers of their legs, and how long one with a leg may be silent
pub record Roster : Type 0 where
  pub roll : Roll
  pub legs : LegCounts
  pub times : Times

-- The calls and the pools; how many calls there may be; and how many units all calls and one call
-- may use.
pub record Usage : Type 0 where
  pub calls : OpenCalls
  pub pools : List Figures
  pub most : ℕ
  pub limit : ℕ
  pub call_limit : ℕ

abbrev pub usage_of : Tables → Usage
usage_of z = record {
  calls = z.calls;
  pools = z.pools;
  most = z.config.calls;
  limit = z.config.limit;
  call_limit = z.config.call_limit;
}

-- the same calls are open, and the pools' figures are the same
pub record HaveSame (a b : Usage) : Type 0 where
  pub calls : a.calls ≡ b.calls
  pub pools : a.pools ≡ b.pools

-- the calls and the pools, and how many more calls can be opened so that no memory is taken for
-- them
pub record Lending : Type 0 where
  pub usage : Usage
  pub room : ℕ

-- these calls are open instead, and these are the figures of the pools
abbrev pub with_usage : Usage → OpenCalls → List Figures → Usage
with_usage u calls pools = record u { calls = calls; pools = pools }

-- each pool has lent what its calls use, and no limit is passed; the limit of a call is a BandWidth
-- (H.225.0)
pub record IsBacked (u : Usage) : Type 0 where
  pub small : u.call_limit < 2 ^ 32
  pub lent : IsLentTo u.pools u.calls
  pub pools : EachCall (λ call. call.pool < length u.pools) u.calls
  pub call_limit : EachCall (λ call. call.units ≤ u.call_limit) u.calls
  pub limit : in_use u.calls ≤ u.limit

-- what holds of the endpoints
pub record IsSoundRoll (roll : Roll) : Type 0 where
  pub consistent : IsConsistent roll.live
  pub aliases : HaveAliasesApart roll.live
  pub few : len roll.live ≤ roll.most

-- what holds of the calls and the pools
pub record IsSoundUsage (u : Usage) : Type 0 where
  pub backed : IsBacked u
  pub each : EachCall IsCall u.calls
  pub few : len u.calls ≤ u.most
  pub most : u.most ≤ calls_table.MOST
  pub within : AreWithinLimits u.pools

-- the endpoints and the calls of a zone with these settings
pub record AreParts (config : ConfigParts) (roll : Roll) (u : Usage) : Type 0 where
  pub endpoints : roll.most ≡ config.endpoints
  pub calls : u.most ≡ config.calls
  pub limit : u.limit ≡ config.limit
  pub call_limit : u.call_limit ≡ config.call_limit
  pub pools : length u.pools ≡ length config.networks
  pub legs : HaveEndpoints roll.live u.calls

-- the settings, the endpoints and the calls of a zone
pub record AreSoundParts (config : ConfigParts) (roster : Roster) (u : Usage) : Type 0 where
  pub settings : IsConfig config
  pub endpoints : IsSoundRoll roster.roll
  pub calls : IsSoundUsage u
  pub parts : AreParts config roster.roll u
  pub counted : AreCounted roster.roll.live u.calls roster.legs
  pub times : roster.times ≡ times_of config
