-- How an endpoint leaves all its calls, whatever their order.
use Rattle.std.specs.Prelude.{ℕ, ◌≡◌, ◌≢◌, ◌<◌, ◌≤◌, List, length, Option, option_and_then}
use Rattle.std.specs.FinMap.{get}
use Rattle.ras_module.specs.declared.call_key.CallKey.{CallKey}
use Rattle.admission.specs.declared.call.Call.{Call}
use Rattle.admission.specs.declared.leg.Leg.{Leg}
use Rattle.admission.specs.Calls.{OpenCalls, legs_of, rest_of_call}
use Rattle.pools.specs.declared.interface.Figures.{Figures}
use Rattle.zone_tables.specs.Pools.{figures_at}
use Rattle.zone_tables.specs.Parts.{Usage}

-- units may have come back to a pool, and nothing else changed
pub record IsSameButLent (old new : Figures) : Type 0 where
  pub lent : new.lent ≤ old.lent
  pub limit : new.limit ≡ old.limit
  pub refusals : new.refusals ≡ old.refusals
  pub waits : new.waits ≡ old.waits

pub record AreSameButLent (old new : List Figures) : Type 0 where
  pub each : length new ≡ length old
  pub same : (pool : ℕ) → pool < length old
      → IsSameButLent (figures_at old pool) (figures_at new pool)

-- what is left of a call, if there is one, without the endpoint's leg
abbrev pub rest_of : List ℕ → Option Call → Option Call
rest_of endpoint call = option_and_then (rest_of_call endpoint) call

-- each call is left
abbrev pub AreLeft : List ℕ → OpenCalls → OpenCalls → Type 0
AreLeft endpoint old new = (key : CallKey) → get new key ≡ rest_of endpoint (get old key)

pub record HaveLeft (endpoint : List ℕ) (old new : Usage) : Type 0 where
  pub calls : AreLeft endpoint old.calls new.calls
  pub pools : AreSameButLent old.pools new.pools
  pub most : new.most ≡ old.most
  pub limit : new.limit ≡ old.limit
  pub call_limit : new.call_limit ≡ old.call_limit

-- a leg of another endpoint
abbrev pub IsOther : List ℕ → Leg → Type 0
IsOther endpoint leg = leg.endpoint ≡ endpoint → ⊥

-- each other endpoint has the same number of legs as before
abbrev pub HaveOthersLegs : List ℕ → OpenCalls → OpenCalls → Type 0
HaveOthersLegs endpoint old new =
    (q : List ℕ) → q ≢ endpoint → legs_of new q ≡ legs_of old q
