-- The fresh pools that the events of a script name.
use Rattle.std.specs.Prelude.{List, filter_map, Option, Some, None}
use Rattle.pools.specs.declared.pool_spec.PoolSpec.{PoolSpec}
use Rattle.script.specs.declared.event.ScriptEvent.{ScriptEvent}
use Rattle.script.specs.declared.event.ScriptEvent.TheVariants.{Event, Replace}

-- the fresh pool of an event, if a pool is to be replaced
abbrev pub fresh_pool_in : ScriptEvent → Option PoolSpec
fresh_pool_in (Event event) = None
fresh_pool_in (Replace replacement) = Some replacement.fresh

-- the fresh pools of events, in order
abbrev pub fresh_pools : List ScriptEvent → List PoolSpec
fresh_pools events = filter_map fresh_pool_in events
