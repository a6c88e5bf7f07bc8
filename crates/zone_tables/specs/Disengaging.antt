-- How an endpoint leaves its calls, and the tables of the zone.
use Rattle.std.specs.Prelude.{ℕ, List}
use Rattle.std.specs.List.{fold}
use Rattle.std.specs.FinMap.{keys, remove}
use Rattle.keyed.specs.Maps.{update}
use Rattle.ras_module.specs.declared.call_key.CallKey.{CallKey}
use Rattle.registrations.specs.Registry.{after_calm}
use Rattle.admission.specs.Calls.{after_leave, freed_by_leave}
use Rattle.zone_tables.specs.Tables.{Tables, with_live}
use Rattle.zone_tables.specs.Pools.{pools_after_end}

-- an endpoint leaves a call; if its leg was the last, the call ends, and its units go back to its
-- pool
abbrev pub without_leg_of : Tables → CallKey → List ℕ → Tables
without_leg_of z call endpoint = record z {
  calls = after_leave z.calls call endpoint;
  pools = pools_after_end z.pools (freed_by_leave z.calls call endpoint);
}

-- the endpoint leaves each of its calls, as if it disengaged: those without a leg end, and their
-- units go back
abbrev pub without_legs_of : Tables → List ℕ → Tables
without_legs_of z endpoint =
    fold (λ left call. without_leg_of left call endpoint) z (keys z.calls)

-- the registration is removed, with the endpoint's legs
abbrev pub without_endpoint : Tables → List ℕ → Tables
without_endpoint z endpoint =
    with_live (without_legs_of z endpoint) (remove z.live endpoint)

-- the legs of a silent endpoint are removed, and it stays registered
abbrev pub without_silent : Tables → List ℕ → Tables
without_silent z endpoint =
    with_live (without_legs_of z endpoint) (update z.live endpoint after_calm)
