-- What holds of the tables of every zone.
use Rattle.std.specs.Prelude.{◌≡◌, ◌<◌, ◌≤◌, ◌+◌, ℕ, List, length, Some, IsSome, Contains, All}
use Rattle.std.specs.FinMap.{get, len}
use Rattle.ras_module.specs.declared.alias.Alias.{Alias}
use Rattle.registrations.specs.declared.registration.Registration.{Registration}
use Rattle.registrations.specs.Registry.{Live, IsConsistent}
use Rattle.admission.specs.Calls.{OpenCalls, EachCall, EachLeg, IsCall, in_use, in_use_of}
use Rattle.pools.specs.declared.interface.Figures.{Figures}
use Rattle.zone_config.specs.Ranges.{IsConfig}
use Rattle.zone_tables.specs.Tables.{Tables}
use Rattle.zone_tables.specs.Pools.{AreWithinLimits, figures_at}

-- no two registrations share an alias
abbrev pub HaveAliasesApart : Live → Type 0
HaveAliasesApart live =
    (i j : List ℕ) (r s : Registration) (alias : Alias) → get live i ≡ Some r → get live j ≡ Some s
    → Contains r.aliases alias → Contains s.aliases alias → i ≡ j

-- each leg's endpoint is registered
abbrev pub HaveEndpoints : Live → OpenCalls → Type 0
HaveEndpoints live calls = EachLeg (λ leg. IsSome (get live leg.endpoint)) calls

-- each pool has lent what its calls use
abbrev pub IsLentTo : List Figures → OpenCalls → Type 0
IsLentTo pools calls =
    (pool : ℕ) → pool < length pools → (figures_at pools pool).lent ≡ in_use_of calls pool

-- fewer requests than `most` were refused, and fewer were answered by a wait
pub record HasCounts (most : ℕ) (f : Figures) : Type 0 where
  pub refusals : f.refusals < most
  pub waits : f.waits < most

-- each pool counted at most one refusal and one wait more
abbrev pub CountsOneMore : List Figures → List Figures → Type 0
CountsOneMore old new = (most : ℕ) → All (HasCounts most) old → All (HasCounts (most + 1)) new

-- what holds of the tables of every zone
pub record SoundTables (z : Tables) : Type 0 where
  pub settings : IsConfig z.config
  pub endpoints : IsConsistent z.live
  pub aliases : HaveAliasesApart z.live
  pub few_endpoints : len z.live ≤ z.config.endpoints
  pub calls : EachCall IsCall z.calls
  pub few_calls : len z.calls ≤ z.config.calls
  pub legs : HaveEndpoints z.live z.calls
  pub call_limit : EachCall (λ call. call.units ≤ z.config.call_limit) z.calls
  pub call_pools : EachCall (λ call. call.pool < length z.pools) z.calls
  pub lent : IsLentTo z.pools z.calls
  pub pool_limits : AreWithinLimits z.pools
  pub limit : in_use z.calls ≤ z.config.limit
  pub pools : length z.pools ≡ length z.config.networks
